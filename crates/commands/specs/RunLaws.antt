-- Laws of a line's run: which readings go on, how much of a text a prefix uses up, and the law that removes the count of readings left.
-- Document 01, section Commands: "their argument is read next". Laws for the loop over readings, and for the bound of demand 3.
-- Assumes nothing.
use Rattle.std.proofs.Math.Path.{◌≡◌, refl, sym, ap, subst}
use Rattle.std.proofs.Common.{◌∙◌, inl, inr, length-drop}
use Rattle.std.specs.Prelude.{Bool, ◌⊎◌, Ok, Err, Option, Some, None}
use Rattle.std.proofs.Math.Bool.{true, false, cond}
use mathlib.Core.List.{List, [], ◌∷◌}
use Prim.Native.Nat.{ℕ, zero, suc, ◌+◌, ◌-◌, ◌≤◌, ◌<◌}
use native.Mathlib.Omega.{arith}
use Rattle.std.proofs.Math.Decide.{dec_lt}
use Rattle.std.proofs.Math.ListN.{length}
use Rattle.std.proofs.Math.Dec.{eqb}
use borrow.Author.Tests.{eqb-false}
use Rattle.scan.specs.Bytes.{is_space, is_word}
use Rattle.scan.specs.Scan.{run_at, byte_at, part_of}
use Rattle.scan.specs.PartLaws.{part_none, part_length, part_first}
use Rattle.reading.specs.Line.{reading_of, argument_of, skip_byte, CommandRead}
use Rattle.reading.specs.LineLaws.{starts, Parsed, parsed, places}
use Rattle.reading.specs.declared.line.CommandDescription.{CommandDescription}
use Rattle.context.specs.declared.context.CommandContext.{CommandContext}
use Rattle.focus.specs.Focus.{focus_of, Focused}
use Rattle.words.specs.Words.{Row, lookup_in}
use Rattle.commands.specs.Handle.{role_of, IsPrefix}
use Rattle.commands.specs.Run.{by_focus, by_role, by_name, by_reading, role_at, role_named, decide, change, one_more, trim, step, run, run_on}
use Rattle.commands.specs.declared.next.Change.{Change}
use Rattle.commands.specs.declared.next.Next.{Next}
use Rattle.commands.specs.declared.next.Role.{Role}

pub trim_length : (l : List ℕ) → length (trim l) ≤ length l
unfolding trim
trim_length l = omega (arith, length-drop (run_at is_space l 0) l)

-- how much of a text words can use: all of it where it starts as a word does, all but one byte of it elsewhere -----------------------

unfoldable pub eff : List ℕ → ℕ
eff s = cond (starts (byte_at s 0)) (length s) (length s - 1)

pub eff_length : (s : List ℕ) → eff s ≤ length s
unfolding eff
eff_length s = elim (starts (byte_at s 0)) as (λ b. cond b (length s) (length s - 1) ≤ length s) [ true ↦ omega arith | false ↦ omega arith ]

pub eff_most : (s : List ℕ) → length s ≤ eff s + 1
unfolding eff
eff_most s = elim (starts (byte_at s 0)) as (λ b. length s ≤ cond b (length s) (length s - 1) + 1) [ true ↦ omega arith | false ↦ omega arith ]

eff_yes : (s : List ℕ) → starts (byte_at s 0) ≡ true → eff s ≡ length s
unfolding eff
eff_yes s h = rw h

eff_no : (s : List ℕ) → starts (byte_at s 0) ≡ false → eff s ≡ length s - 1
unfolding eff
eff_no s h = rw h

-- a reading whose word is not empty ----------------------------------------------------------------------------------------------------

pub record Took (s : List ℕ) (d : CommandDescription) : Type 0 where
  -- the argument is shorter than the text
  pub shorter : length (argument_of s d) < length s
  pub word_length : length (part_of s d.word d.end) ≡ d.end - d.word
  -- the word lies in what words can use
  pub inside : d.end - d.word ≤ eff s
  -- and so do one byte more and what words can use of the argument, unless it is empty
  pub parted : (byte_at s d.word ≡ 0x21 → ⊥) → (argument_of s d ≡ []) ⊎ (d.end - d.word + 1 + eff (argument_of s d) ≤ eff s)

-- from the word on
word_eff : (s : List ℕ) (w : ℕ) → w ≤ length s → starts (byte_at s w) ≡ true → length s - w ≤ eff s
word_eff s zero h e = omega (arith, eff_yes s e)
word_eff s (suc w) h e = omega (arith, eff_most s)

no_bang : (s : List ℕ) (i : ℕ) → skip_byte s i 0x21 ≡ i → eqb (byte_at s i) 0x21 ≡ false
unfolding skip_byte
no_bang s i h = go (eqb (byte_at s i) 0x21) h
  where
    go : (b : Bool) → cond b (i + 1) i ≡ i → b ≡ false
    go true e = absurd (omega arith)
    go false e = refl

module _ (s : List ℕ) (d : CommandDescription) (z : d.word < d.end) (h : Parsed s d) where
  -- the first byte of an argument that stands right behind the word starts no word
  close : (byte_at s d.word ≡ 0x21 → ⊥) → d.argument < d.stop → d.argument ≡ d.end → starts (byte_at s d.argument) ≡ false
  unfolding starts
  close n y e =
      let p = places s d h in
      let w = p.its_word in
      let same = w.at_once z in
      let b = p.its_bang in
      let a = p.spaced in
      let v : is_word (byte_at s d.end) ≡ false = w.last z n (omega (arith, p.within)) in
      let k : skip_byte s h.next 0x21 ≡ h.next = omega arith in
      let q : eqb (byte_at s d.end) 0x21 ≡ false = no_bang s d.end (ap (λ (i : ℕ). skip_byte s i 0x21) same ∙ k ∙ sym same) in
      rw (e, q, v)

  pub took : Took s d
  took =
      let p = places s d h in
      let w = p.its_word in
      let b = p.its_bang in
      let n = part_length s d.argument d.stop p.within in
      let m = word_eff s d.word (omega arith) (w.first z) in
      record {
        shorter = omega arith;
        word_length = part_length s d.word d.end (omega arith);
        inside = omega arith;
        parted = λ x. go x (dec_lt d.argument d.stop) (dec_lt d.end d.argument);
      }
    where
      a : List ℕ
      a = argument_of s d

      go : (byte_at s d.word ≡ 0x21 → ⊥) → Dec (d.argument < d.stop) → Dec (d.end < d.argument) → (a ≡ []) ⊎ (d.end - d.word + 1 + eff a ≤ eff s)
      go x (no k) y = inl (part_none s d.argument d.stop (omega arith))
      go x (yes k) (yes y) =
          let p = places s d h in
          let w = p.its_word in
          let n = part_length s d.argument d.stop p.within in
          let m = word_eff s d.word (omega arith) (w.first z) in
          inr (omega (arith, eff_length a, p.within))
      go x (yes k) (no y) =
          let p = places s d h in
          let w = p.its_word in
          let b = p.its_bang in
          let e : d.argument ≡ d.end = omega (arith, p.spaced) in
          let n = part_length s d.argument d.stop p.within in
          let m = word_eff s d.word (omega arith) (w.first z) in
          let f = eff_no a (ap starts (part_first s d.argument d.stop k) ∙ close x k e) in
          inr (omega (arith, p.within))

-- what goes on is a prefix -------------------------------------------------------------------------------------------------------------

-- a reading's argument stands from a up to e
pub record Argument (d : CommandDescription) (a e : ℕ) : Type 0 where
  pub begins : d.argument ≡ a
  pub stops : d.stop ≡ e

by_focus_lem : (d : CommandDescription) (f : Focused) (ch : Change) (a e : ℕ) → by_focus d f ≡ Next.Again ch a e → Argument d a e
unfolding by_focus
by_focus_lem d (Ok f) ch a e h = record { begins = cc; stops = cc }
by_focus_lem d (Err n) ch a e h = let z : ◌≡◌ {A = ℕ} 0 1 = cc in absurd (omega arith)

by_role_lem : (s : List ℕ) (d : CommandDescription) (n : ℕ) (r : Role) (ch : Change) (a e : ℕ) → by_role s d n r ≡ Next.Again ch a e → Argument d a e × IsPrefix r
unfolding by_role
by_role_lem s d n Role.Tab ch a e h = (by_focus_lem d (focus_of s d.range) ch a e h, tt)
by_role_lem s d n (Role.Axis x) ch a e h = (record { begins = cc; stops = cc }, tt)
by_role_lem s d n (Role.Side x) ch a e h = (record { begins = cc; stops = cc }, tt)
by_role_lem s d n Role.Action ch a e h = let z : ◌≡◌ {A = ℕ} 0 1 = cc in absurd (omega arith)

by_name_lem : (s : List ℕ) (d : CommandDescription) (m : Option ℕ) (ch : Change) (a e : ℕ) → by_name s d m ≡ Next.Again ch a e → Argument d a e × IsPrefix (role_at m)
unfolding by_name
by_name_lem s d (Some n) ch a e h = by_role_lem s d n (role_of n) ch a e h
by_name_lem s d None ch a e h = let z : ◌≡◌ {A = ℕ} 0 1 = cc in absurd (omega arith)

module _ (table : List Row) where
  pub role_named_lem : (w : List ℕ) → 0 < length w → role_named table w ≡ role_at (lookup_in table w)
  unfolding role_named
  role_named_lem [] h = absurd (omega arith)
  role_named_lem (x ∷ w) h = refl

  -- the text s starts with a prefix, whose argument stands from a up to e
  pub record Prefix (s : List ℕ) (a e : ℕ) : Type 0 where
    pub its : CommandDescription
    pub its_parts : Parsed s its
    pub wordy : its.word < its.end
    pub names : IsPrefix (role_named table (part_of s its.word its.end))
    pub argument : Argument its a e

  pub prefix_of : (s : List ℕ) (ch : Change) (a e : ℕ) → decide table s ≡ Next.Again ch a e → Prefix s a e
  unfolding decide by_reading
  prefix_of s ch a e h = go (reading_of s) refl h
    where
      go : (r : CommandRead) → reading_of s ≡ r → by_reading table s r ≡ Next.Again ch a e → Prefix s a e
      go (Err why) q x = let z : ◌≡◌ {A = ℕ} 0 1 = cc in absurd (omega arith)
      go (Ok d) q x = by (eqb d.word d.end) refl x
        where
          by : (b : Bool) → eqb d.word d.end ≡ b → cond b Next.Empty (by_name s d (lookup_in table (part_of s d.word d.end))) ≡ Next.Again ch a e → Prefix s a e
          by true y g = let z : ◌≡◌ {A = ℕ} 0 1 = cc in absurd (omega arith)
          by false y g =
              let p = parsed s d q in
              let w = (places s d p).its_word in
              let n : (d.word ≡ d.end → ⊥) = eqb-false d.word d.end y in
              let z : d.word < d.end = omega arith in
              let k = by_name_lem s d (lookup_in table (part_of s d.word d.end)) ch a e g in
              let m = role_named_lem (part_of s d.word d.end) (omega (arith, (took s d z p).word_length)) in
              record { its = d; its_parts = p; wordy = z; names = subst IsPrefix (sym m) k.1; argument = k.0 }

  pub prefix_took : (s : List ℕ) (a e : ℕ) (h : Prefix s a e) → Took s h.its
  prefix_took s a e h = took s h.its h.wordy h.its_parts

  pub prefix_part : (s : List ℕ) (a e : ℕ) (h : Prefix s a e) → argument_of s h.its ≡ part_of s a e
  prefix_part s a e h = rw (h.argument.begins, h.argument.stops)

  -- a prefix's argument is shorter than its text
  pub shrinks : (s : List ℕ) (ch : Change) (a e : ℕ) → decide table s ≡ Next.Again ch a e → length (part_of s a e) < length s
  shrinks s ch a e h = let p = prefix_of s ch a e h in omega (arith, ap length (prefix_part s a e p), (prefix_took s a e p).shorter)

  -- the count of readings left --------------------------------------------------------------------------------------------------------

  -- any two counts above the text's length give the same run
  run_enough : (n m : ℕ) (x : CommandContext) (s : List ℕ) → length s < n → length s < m → run table n x s ≡ run table m x s
  unfolding run step
  run_enough zero m x s h k = absurd (omega arith)
  run_enough (suc n) zero x s h k = absurd (omega arith)
  run_enough (suc n) (suc m) x s h k = go (decide table s) refl (λ y t i j. run_enough n m y t i j)
    where
      go : (v : Next) → decide table s ≡ v → ((y : CommandContext) (t : List ℕ) → length t < n → length t < m → run table n y t ≡ run table m y t) →
          step table (λ y t. run table n y t) x s v ≡ step table (λ y t. run table m y t) x s v
      go Next.Empty q ih = refl
      go (Next.Refused i) q ih = refl
      go (Next.Unknown i j) q ih = refl
      go (Next.Runs i d) q ih = refl
      go (Next.Again ch a e) q ih =
          let l = shrinks s ch a e q in
          ap one_more (ih (change ch x) (part_of s a e) (omega arith) (omega arith))

  -- a text's run is its first reading, and then the argument's run
  pub run_is : (x : CommandContext) (s : List ℕ) → run_on table x s ≡ step table (run_on table) x s (decide table s)
  unfolding run_on run step
  run_is x s = go (decide table s) refl
    where
      go : (v : Next) → decide table s ≡ v → step table (λ y t. run table (length s) y t) x s v ≡ step table (run_on table) x s v
      go Next.Empty q = refl
      go (Next.Refused i) q = refl
      go (Next.Unknown i j) q = refl
      go (Next.Runs i d) q = refl
      go (Next.Again ch a e) q =
          let l = shrinks s ch a e q in
          ap one_more (run_enough (length s) (suc (length (part_of s a e))) (change ch x) (part_of s a e) (omega arith) (omega arith))
