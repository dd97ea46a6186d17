-- A reader at k + i of a text answers what it answers at i of the text without its first k bytes, its positions moved by k.
-- Assumes nothing.
use Rattle.std.specs.Prelude.{◌≡◌, Bool, true, false, cond, List, ℕ, ◌+◌, ◌-◌, ◌^◌, eqb, leb, ltb, length, drop}
use Rattle.std.proofs.Math.Path.{refl}
use Rattle.std.proofs.Common.{◌∙◌, sym, ap, add_assoc, arith, eqb-true, eq-eqb, ne_eqb, leb-true, leb-false, le-leb, length-drop, get_or-drop}
use Rattle.std.proofs.lemmas.Bool.{eqb-false, lt-leb}
use Rattle.std.proofs.Math.Seq.{drop-drop}
use Rattle.scan.specs.Bytes.{is_digit}
use Rattle.scan.specs.RunLaws.{run_shift}
use Rattle.scan.specs.Scan.{byte_at, part_of, run_from, run_at, value_from, digits_from, digits_at}
use Rattle.scan.specs.Shift.{shift_decimal}

-- what is done to each arm is done to the choice
pub cond_shift : {A B : Type 0} (f : A → B) (b : Bool) {x y : A} {u v : B} → u ≡ f x → v ≡ f y → cond b u v ≡ f (cond b x y)
cond_shift f true e g = e
cond_shift f false e g = g

module _ (k : ℕ) where
  -- two positions moved
  pub eqb_shift : (i j : ℕ) → eqb (k + i) (k + j) ≡ eqb i j
  eqb_shift i j = go (eqb i j) refl
    where
      go : (b : Bool) → eqb i j ≡ b → eqb (k + i) (k + j) ≡ b
      go true e = let q = eqb-true i j e in eq-eqb (k + i) (k + j) (omega arith)
      go false e = let q : (i ≡ j → ⊥) = eqb-false i j e in ne_eqb (k + i) (k + j) (λ z. q (omega arith))

  -- digits, and those behind one byte
  pub digits_shift : (xs : List ℕ) (i : ℕ) → digits_from (k + i) xs ≡ shift_decimal k (digits_from i xs)
  unfolding digits_from shift_decimal
  digits_shift xs i =
      rw (run_shift is_digit k xs i, eqb_shift (run_from is_digit i xs) i)
      (cond_shift (shift_decimal k) (eqb (run_from is_digit i xs) i) refl (cond_shift (shift_decimal k) (ltb (value_from 0 xs) (2 ^ 64)) refl refl))

  pub digits_next : (xs : List ℕ) (i : ℕ) → digits_from (k + i + 1) xs ≡ shift_decimal k (digits_from (i + 1) xs)
  digits_next xs i = ap (λ (n : ℕ). digits_from n xs) (add_assoc k i 1) ∙ digits_shift xs (i + 1)

  module _ (l : List ℕ) where
    -- a byte and a part
    pub byte_shift : (i : ℕ) → byte_at l (k + i) ≡ byte_at (drop k l) i
    byte_shift i = sym (get_or-drop k l i 0)

    pub part_shift : (a e : ℕ) → part_of l (k + a) (k + e) ≡ part_of (drop k l) a e
    part_shift a e = let q : k + e - (k + a) ≡ e - a = omega arith in rw (q, ← drop-drop a k l)

    -- whether the end is reached
    pub length_shift : (i : ℕ) → leb (length l) (k + i) ≡ leb (length (drop k l)) i
    length_shift i = go (leb (length (drop k l)) i) refl
      where
        go : (b : Bool) → leb (length (drop k l)) i ≡ b → leb (length l) (k + i) ≡ b
        go true e = le-leb (length l) (k + i) (omega (arith, leb-true (length (drop k l)) i e, length-drop k l))
        go false e = lt-leb (length l) (k + i) (omega (arith, leb-false (length (drop k l)) i e, length-drop k l))

    -- a run and its digits
    pub run_at_shift : (f : ℕ → Bool) (i : ℕ) → run_at f l (k + i) ≡ k + run_at f (drop k l) i
    unfolding run_at
    run_at_shift f i = rw (← drop-drop i k l) (run_shift f k (drop i (drop k l)) i)

    pub digits_at_shift : (i : ℕ) → digits_at l (k + i) ≡ shift_decimal k (digits_at (drop k l) i)
    unfolding digits_at
    digits_at_shift i = rw (← drop-drop i k l) (digits_shift (drop i (drop k l)) i)
