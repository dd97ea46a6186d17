-- The argument of a line, read as a text of its own, and read where it stands in the line: bytes, spaces and items are the same, moved by
-- the argument's place. Behind the argument stands a 0x0A, or the end. Look for `part_byte`, `space_moved`, `item_moved`. Assumes nothing.
use Rattle.std.proofs.Math.Path.{◌≡◌, ap}
use Rattle.std.specs.Prelude.{refl, Bool, cond, ℕ, ◌+◌, ◌-◌, ◌<◌, ◌≤◌, eqb, Option, Some, None}
use Rattle.std.proofs.Common.{◌∙◌, sym, drop_of_length-le, drop-drop, get_or-drop, get_or-take, ne_eqb}
use Rattle.std.proofs.Math.Bool.{true, false}
use mathlib.Core.List.{List, [], ◌∷◌, ◌++◌, append-nil}
use native.Mathlib.Omega.{arith}
use Rattle.std.proofs.Math.Decide.{dec_lt}
use Rattle.std.proofs.Math.ListN.{length, drop}
use Rattle.std.proofs.lemmas.List.{drop-append-le}
use Rattle.std.proofs.lemmas.Bool.{eqb-false}
use Rattle.scan.specs.Bytes.{is_space, is_plain}
use Rattle.scan.specs.Scan.{run_from, run_at, byte_at, part_of}
use Rattle.scan.specs.RunLaws.{drop_step, run_stop, run_shift}
use Rattle.scan.specs.PartLaws.{part_length}
use Rattle.lists.specs.Text.{escape_of, own, stop_at, text_end_from, text_end_at}
use Rattle.lists.specs.Lists.{item_of, item_at}
use Rattle.scanner.specs.TokensLaws.{part_drop}

-- a text and what stands behind it ---------------------------------------------------------------------------------------------------------

-- where a text ends, it ends k places further on
stop_moved : (q : Bool) (k i b j : ℕ) → stop_at q i b ≡ Some j → stop_at q (k + i) b ≡ Some (k + j)
unfolding stop_at
stop_moved true k i b j h = go (eqb b 0x22) h
  where
    go : (t : Bool) → cond t (Some i) None ≡ Some j → cond t (Some (k + i)) None ≡ Some (k + j)
    go true e = let p : i ≡ j = cc in ap (λ (n : ℕ). Some (k + n)) p
    go false e = let z : ◌≡◌ {A = ℕ} 0 1 = cc in absurd (omega arith)
stop_moved false k i b j h = let p : i ≡ j = cc in ap (λ (n : ℕ). Some (k + n)) p

-- and so before bytes u that end a plain text
module _ (u : List ℕ) (ends : (i : ℕ) → text_end_from false false i u ≡ Some i) (k : ℕ) where
  text_moved : (q e : Bool) (i j : ℕ) (xs : List ℕ) → text_end_from q e i xs ≡ Some j → text_end_from q e (k + i) (xs ++ u) ≡ Some (k + j)
  unfolding text_end_from stop_at
  text_moved q true i j [] h = let z : ◌≡◌ {A = ℕ} 0 1 = cc in absurd (omega arith)
  text_moved true false i j [] h = let z : ◌≡◌ {A = ℕ} 0 1 = cc in absurd (omega arith)
  text_moved false false i j [] h = let p : i ≡ j = cc in ends (k + i) ∙ ap (λ (n : ℕ). Some (k + n)) p
  text_moved q true i j (b ∷ bs) h = go (escape_of q b) (text_moved q false (i + 1) j bs) h
    where
      n : k + (i + 1) ≡ k + i + 1
      n = omega arith

      go : (t : Option ℕ) → (text_end_from q false (i + 1) bs ≡ Some j → text_end_from q false (k + (i + 1)) (bs ++ u) ≡ Some (k + j)) →
          elim t as (λ x. Option ℕ) [ Some c ↦ text_end_from q false (i + 1) bs | None ↦ None ] ≡ Some j →
          elim t as (λ x. Option ℕ) [ Some c ↦ text_end_from q false (k + i + 1) (bs ++ u) | None ↦ None ] ≡ Some (k + j)
      go (Some c) r g = ap (λ (m : ℕ). text_end_from q false m (bs ++ u)) (sym n) ∙ r g
      go None r g = let z : ◌≡◌ {A = ℕ} 0 1 = cc in absurd (omega arith)
  text_moved q false i j (b ∷ bs) h = go (own q b) (eqb b 0x5C) (λ e. text_moved q e (i + 1) j bs) h
    where
      n : k + (i + 1) ≡ k + i + 1
      n = omega arith

      go : (t v : Bool) → ((e : Bool) → text_end_from q e (i + 1) bs ≡ Some j → text_end_from q e (k + (i + 1)) (bs ++ u) ≡ Some (k + j)) →
          elim t as (λ x. Option ℕ) [ true ↦ text_end_from q false (i + 1) bs | false ↦ elim v as (λ x. Option ℕ) [ true ↦ text_end_from q true (i + 1) bs | false ↦ stop_at q i b ] ] ≡ Some j →
          elim t as (λ x. Option ℕ) [
            | true ↦ text_end_from q false (k + i + 1) (bs ++ u)
            | false ↦ elim v as (λ x. Option ℕ) [ true ↦ text_end_from q true (k + i + 1) (bs ++ u) | false ↦ stop_at q (k + i) b ]
          ] ≡ Some (k + j)
      go true v r g = ap (λ (m : ℕ). text_end_from q false m (bs ++ u)) (sym n) ∙ r false g
      go false true r g = ap (λ (m : ℕ). text_end_from q true m (bs ++ u)) (sym n) ∙ r true g
      go false false r g = stop_moved q k i b j g

-- an item of a text that is moved
of_moved : (k i d j : ℕ) (t v : Option ℕ) → ((m : ℕ) → t ≡ Some m → v ≡ Some (k + m)) → item_of i d t ≡ Some j → item_of (k + i) d v ≡ Some (k + j)
unfolding item_of
of_moved k i d j None v f h = let z : ◌≡◌ {A = ℕ} 0 1 = cc in absurd (omega arith)
of_moved k i d j (Some m) v f h = ap (item_of (k + i) d) (f m refl) ∙ go (eqb m i) refl h
  where
    go : (t : Bool) → eqb m i ≡ t → cond t None (Some (m + d)) ≡ Some j → item_of (k + i) d (Some (k + m)) ≡ Some (k + j)
    go true e g = let z : ◌≡◌ {A = ℕ} 0 1 = cc in absurd (omega arith)
    go false e g =
        let p : m + d ≡ j = cc in
        let n = eqb-false m i e in
        rw (ne_eqb (k + m) (k + i) (λ w. n (omega arith))) (ap Some (omega arith))

-- the argument in its line -----------------------------------------------------------------------------------------------------------------------

module _ (s : List ℕ) (a e : ℕ) (ae : a ≤ e) (el : e ≤ length s) (line : e < length s → byte_at s e ≡ 0x0A) where
  part_left : (i : ℕ) → i ≤ e - a → drop (a + i) s ≡ drop i (part_of s a e) ++ drop e s
  part_left i h =
      sym (drop-drop i a s) ∙ ap (drop i) (sym (part_drop s a e ae)) ∙ drop-append-le i (part_of s a e) (drop e s) (omega (arith, part_length s a e el))

  pub part_byte : (i : ℕ) → i < e - a → byte_at (part_of s a e) i ≡ byte_at s (a + i)
  part_byte i h = get_or-take (e - a) (drop a s) i 0 h ∙ get_or-drop a s i 0

  plain_end : (i : ℕ) → text_end_from false false i (drop e s) ≡ Some i
  unfolding text_end_from own is_plain stop_at
  plain_end i = go (dec_lt e (length s))
    where
      go : Dec (e < length s) → text_end_from false false i (drop e s) ≡ Some i
      go (yes k) = rw (drop_step s e k, line k)
      go (no k) = let z : length s ≤ e = omega arith in rw (drop_of_length-le s z)

  space_end : (i : ℕ) (xs : List ℕ) → run_from is_space i (xs ++ drop e s) ≡ run_from is_space i xs
  unfolding is_space
  space_end i xs = go (dec_lt e (length s))
    where
      go : Dec (e < length s) → run_from is_space i (xs ++ drop e s) ≡ run_from is_space i xs
      go (yes k) = ap (λ (r : List ℕ). run_from is_space i (xs ++ r)) (drop_step s e k) ∙ run_stop is_space (byte_at s e) (drop (e + 1) s) (ap is_space (line k)) xs i
      go (no k) = let z : length s ≤ e = omega arith in ap (λ (r : List ℕ). run_from is_space i (xs ++ r)) (drop_of_length-le s z) ∙ ap (run_from is_space i) (append-nil xs)

  pub space_moved : (i : ℕ) → i ≤ e - a → run_at is_space s (a + i) ≡ a + run_at is_space (part_of s a e) i
  unfolding run_at
  space_moved i h = ap (run_from is_space (a + i)) (part_left i h) ∙ space_end (a + i) (drop i (part_of s a e)) ∙ run_shift is_space a (drop i (part_of s a e)) i

  at_moved : (q : Bool) (i m : ℕ) → i ≤ e - a → text_end_at q (part_of s a e) i ≡ Some m → text_end_at q s (a + i) ≡ Some (a + m)
  unfolding text_end_at
  at_moved q i m h t = ap (text_end_from q false (a + i)) (part_left i h) ∙ text_moved (drop e s) plain_end a q false i m (drop i (part_of s a e)) t

  pub item_moved : (i j : ℕ) → i < e - a → item_at (part_of s a e) i ≡ Some j → item_at s (a + i) ≡ Some (a + j)
  unfolding item_at
  item_moved i j h t = rw (sym (part_byte i h)) (go (eqb (byte_at (part_of s a e) i) 0x22) t)
    where
      n : a + (i + 1) ≡ a + i + 1
      n = omega arith

      go : (b : Bool) → cond b (item_of (i + 1) 1 (text_end_at true (part_of s a e) (i + 1))) (item_of i 0 (text_end_at false (part_of s a e) i)) ≡ Some j →
          cond b (item_of (a + i + 1) 1 (text_end_at true s (a + i + 1))) (item_of (a + i) 0 (text_end_at false s (a + i))) ≡ Some (a + j)
      go true g =
          ap (λ (m : ℕ). item_of m 1 (text_end_at true s m)) (sym n)
          ∙ of_moved a (i + 1) 1 j (text_end_at true (part_of s a e) (i + 1)) (text_end_at true s (a + (i + 1))) (λ m. at_moved true (i + 1) m (omega arith)) g
      go false g = of_moved a i 0 j (text_end_at false (part_of s a e) i) (text_end_at false s (a + i)) (λ m. at_moved false i m (omega arith)) g
