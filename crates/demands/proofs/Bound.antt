-- The bound on readings, proved: a prefix's word and one byte that parts it from the next word are used up by each reading but the last.
-- Document 01, "For demand 3": "Readings are those begun once 1, 12 and 2 pass: one on the line, one on the argument of each prefix".
-- Assumes nothing.
use Rattle.std.specs.Prelude.{◌≡◌, ◌⊎◌, length}
use Rattle.std.proofs.Math.Path.{refl}
use Rattle.std.proofs.Common.{sym, ◌∙◌, ap, subst, inl, inr, le-div_iff_mul-le}
use mathlib.Core.List.{List, [], ◌∷◌}
use Prim.Native.Nat.{ℕ, zero, suc, ◌+◌, ◌-◌, ◌*◌, ◌≤◌, ◌/◌}
use Rattle.std.proofs.Math.Nat.{add-div_right}
use native.Mathlib.Omega.{arith}
use Rattle.scan.specs.PartLaws.{part_first}
use Rattle.scan.specs.Scan.{byte_at, part_of}
use Rattle.reading.specs.Alone.{line_room}
use Rattle.reading.specs.Checks.{check_for_either}
use Rattle.reading.specs.Line.{argument_of}
use Rattle.reading.specs.LineLaws.{word_bang}
use Rattle.words.specs.Words.{Row}
use Rattle.context.specs.Context.{fresh}
use Rattle.context.specs.declared.context.CommandContext.{CommandContext}
use Rattle.commands.specs.Run.{decide, change, trim, step, run, run_on, line_from}
use Rattle.commands.specs.RunLaws.{trim_length, eff, eff_length, Took, Prefix, prefix_of, prefix_took, prefix_part, shrinks}
use Rattle.commands.specs.Line.{turned, line}
use Rattle.commands.specs.declared.next.Next.{Next}
use Rattle.demands.specs.Statement.{NamesPrefix, typed, AboutReadings}

-- at most two readings, where there is room for a word
two_at_most : (r m e : ℕ) → r ≤ 1 → m ≤ e → suc r * (m + 1) ≤ e + 1 + (m + 1)
two_at_most zero m e h k = omega arith
two_at_most (suc zero) m e h k = omega arith
two_at_most (suc (suc r)) m e h k = absurd (omega arith)

-- rounded down
by_division : (r m n : ℕ) → r * (m + 1) ≤ n + (m + 1) → r ≤ n / (m + 1) + 1
by_division r m n h = rw (← add-div_right n {k = m + 1} (omega arith)) ((le-div_iff_mul-le {k = m + 1} (omega arith)).1 h)

-- a text of one byte
single : (w : List ℕ) → length w ≡ 1 → w ≡ byte_at w 0 ∷ []
single [] h = absurd (omega arith)
single (x ∷ []) h = refl
single (x ∷ y ∷ w) h = absurd (omega arith)

module _ (table : List Row) where
  line_readings : (x : CommandContext) (l store : List ℕ) (n : ℕ) → (run table (suc (length (trim l))) x (trim l)).readings ≤ n → (typed table x l store).readings ≤ n
  unfolding line line_from run_on
  line_readings x l store n h = check_for_either (line_room l) l (length store) (λ r. r.readings ≤ n) turned (line_from table x l) (λ k. omega arith) h

  -- an empty text takes one reading
  run_empty : (n : ℕ) (x : CommandContext) → (run table n x []).readings ≤ 1
  unfolding run step
  run_empty zero x = omega arith
  run_empty (suc n) x = go (decide table []) refl
    where
      go : (v : Next) → decide table [] ≡ v → (step table (λ y s. run table n y s) x [] v).readings ≤ 1
      go Next.Empty q = omega arith
      go (Next.Refused i) q = omega arith
      go (Next.Unknown i j) q = omega arith
      go (Next.Runs i d) q = omega arith
      go (Next.Again ch a e) q = absurd (omega (arith, shrinks table [] ch a e q))

  module _ (m : ℕ) (least : (w : List ℕ) → NamesPrefix table w → m ≤ length w) (bang : NamesPrefix table (0x21 ∷ []) → ⊥) where
    not_bang : (s : List ℕ) (a e : ℕ) (h : Prefix table s a e) → byte_at s h.its.word ≡ 0x21 → ⊥
    not_bang s a e h b =
        let d = h.its in
        let w = part_of s d.word d.end in
        let j = word_bang s d.word d.end h.its_parts.next b h.its_parts.worded in
        let n = (prefix_took table s a e h).word_length in
        let q : w ≡ 0x21 ∷ [] = single w (omega arith) ∙ ap (λ x. x ∷ []) (part_first s d.word d.end h.wordy ∙ b) in
        bang (subst (NamesPrefix table) q h.names)

    -- the word, one byte, and what words can use of the argument
    run_bound : (n : ℕ) (x : CommandContext) (s : List ℕ) → (run table n x s).readings * (m + 1) ≤ eff s + 1 + (m + 1)
    unfolding run step
    run_bound zero x s = omega arith
    run_bound (suc n) x s = go (decide table s) refl (λ y t. run_bound n y t)
      where
        go : (v : Next) → decide table s ≡ v → ((y : CommandContext) (t : List ℕ) → (run table n y t).readings * (m + 1) ≤ eff t + 1 + (m + 1)) →
            (step table (λ y t. run table n y t) x s v).readings * (m + 1) ≤ eff s + 1 + (m + 1)
        go Next.Empty q ih = omega arith
        go (Next.Refused i) q ih = omega arith
        go (Next.Unknown i j) q ih = omega arith
        go (Next.Runs i d) q ih = omega arith
        go (Next.Again ch a e) q ih = by (prefix_of table s ch a e q)
          where
            by : Prefix table s a e → suc (run table n (change ch x) (part_of s a e)).readings * (m + 1) ≤ eff s + 1 + (m + 1)
            by h = parts (took.parted (not_bang s a e h))
              where
                took : Took s h.its
                took = prefix_took table s a e h

                long : m ≤ h.its.end - h.its.word
                long = omega (arith, took.word_length, least (part_of s h.its.word h.its.end) h.names)

                parts : (argument_of s h.its ≡ []) ⊎ (h.its.end - h.its.word + 1 + eff (argument_of s h.its) ≤ eff s) →
                    suc (run table n (change ch x) (part_of s a e)).readings * (m + 1) ≤ eff s + 1 + (m + 1)
                parts (inl y) =
                    let z : part_of s a e ≡ [] = sym (prefix_part table s a e h) ∙ y in
                    two_at_most (run table n (change ch x) (part_of s a e)).readings m (eff s)
                    (rw z (run_empty n (change ch x))) (omega (arith, long, took.inside))
                parts (inr y) =
                    let z = ap eff (prefix_part table s a e h) in
                    omega (arith, ih (change ch x) (part_of s a e), long)

  -- where no word names a prefix, the first reading is the last
  run_once : ((w : List ℕ) → NamesPrefix table w → ⊥) → (s : List ℕ) → (run table (suc (length s)) fresh s).readings ≤ 1
  unfolding run step
  run_once h s = go (decide table s) refl
    where
      go : (v : Next) → decide table s ≡ v → (step table (λ y t. run table (length s) y t) fresh s v).readings ≤ 1
      go Next.Empty q = omega arith
      go (Next.Refused i) q = omega arith
      go (Next.Unknown i j) q = omega arith
      go (Next.Runs i d) q = omega arith
      go (Next.Again ch a e) q = let p = prefix_of table s ch a e q in absurd (h (part_of s p.its.word p.its.end) p.names)

  -- `!` must name no prefix: with `!` and `a` for vertical, `!a!a` has four readings
  pub about_readings : (NamesPrefix table (0x21 ∷ []) → ⊥) → AboutReadings table
  about_readings bang l store =
      let n = suc (length (trim l)) in
      record {
        by_shortest = λ m h. line_readings fresh l store ((length l + 1) / (m + 1) + 1)
            (by_division (run table n fresh (trim l)).readings m (length l + 1)
            (omega (arith, run_bound m h.least bang n fresh (trim l), eff_length (trim l), trim_length l)));
        no_prefix = λ h. line_readings fresh l store 1 (run_once h (trim l));
      }
