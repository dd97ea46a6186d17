-- Laws of offsets, over positions of a text.
-- Assumes nothing.
use mathlib.Core.Path.{◌≡◌, ◌∙◌, ap}
use mathlib.Core.Bool.{true, false}
use mathlib.Core.List.{List, [], ◌∷◌}
use Prim.Native.Nat.{ℕ, zero, suc, ◌+◌, ◌-◌, ◌<◌, ◌≤◌}
use native.Mathlib.Nat.{add-zero}
use native.Mathlib.Omega.{arith}
use native.Mathlib.Decide.{dec_lt}
use lib.ListN.{length, get_or, drop, drop_of_length-le, length-drop}
use lib.Seq.{drop-drop}
use Rattle.scan.specs.Scan.{digits_at}
use Rattle.ranges.specs.Range.{is_sign, offsets_from, offsets_at}
use Rattle.ranges.specs.Offset.{offset_at}
use Rattle.ranges.specs.OffsetLaws.{Passed, sign_inside, offset_passed}
use Rattle.scan.specs.RunLaws.{drop_step}
use Rattle.scan.specs.DigitsLaws.{digits_past}
use Rattle.std.specs.Prelude.{Ok, Err, Some, None}
use Rattle.limits.specs.declared.refusal.Refusal.{Refusal}

-- k bytes passed are k bytes dropped
skip : (k i : ℕ) (xs : List ℕ) → k ≤ length xs → offsets_from k i xs ≡ offsets_from 0 (i + k) (drop k xs)
unfolding offsets_from
skip zero i xs h = rw add-zero
skip (suc k) i [] h = absurd (omega arith)
skip (suc k) i (b ∷ bs) h =
    let e : i + 1 + k ≡ i + suc k = omega arith in
    skip k (i + 1) bs (omega arith) ∙ ap (λ (m : ℕ). offsets_from 0 m (drop k bs)) e

module _ (s : List ℕ) (i : ℕ) where
  pub offsets_at_end : length s ≤ i → offsets_at s i ≡ Ok i
  unfolding offsets_at offsets_from
  offsets_at_end h = rw (drop_of_length-le s h)

  pub offsets_at_stop : i < length s → is_sign (get_or s i 0) ≡ false → offsets_at s i ≡ Ok i
  unfolding offsets_at offsets_from
  offsets_at_stop h t = rw (drop_step s i h, t, offsets_from)

  pub offsets_at_bare : i < length s → is_sign (get_or s i 0) ≡ true → digits_at s (i + 1) ≡ Ok None → offsets_at s i ≡ offsets_at s (i + 1)
  unfolding offsets_at offsets_from digits_at
  offsets_at_bare h t d = rw (drop_step s i h, t, d, offsets_from)

  pub offsets_at_large : {why : Refusal} → i < length s → is_sign (get_or s i 0) ≡ true → digits_at s (i + 1) ≡ Err why → offsets_at s i ≡ Err why
  unfolding offsets_at offsets_from digits_at
  offsets_at_large h t d = rw (drop_step s i h, t, d, offsets_from)

  pub offsets_at_value : (n j : ℕ) → i < length s → is_sign (get_or s i 0) ≡ true → digits_at s (i + 1) ≡ Ok (Some (n, j)) →
      offsets_at s i ≡ offsets_at s j
  unfolding offsets_at offsets_from digits_at
  offsets_at_value n j h t d =
      let q = digits_past s (i + 1) n j (omega arith) d in
      let e : i + 1 + (j - (i + 1)) ≡ j = omega (arith, q) in
      rw (drop_step s i h, t, d, offsets_from)
      (skip (j - (i + 1)) (i + 1) (drop (i + 1) s) (omega (arith, q, length-drop (i + 1) s))
      ∙ rw (drop-drop, e))

-- no sign: in the text, or past its end
pub offsets_at_none : (s : List ℕ) (i : ℕ) → is_sign (get_or s i 0) ≡ false → offsets_at s i ≡ Ok i
offsets_at_none s i e = go (dec_lt i (length s))
  where
    go : Dec (i < length s) → offsets_at s i ≡ Ok i
    go (yes h) = offsets_at_stop s i h e
    go (no h) = offsets_at_end s i (omega arith)

-- one offset
pub offsets_at_next : (s : List ℕ) (i n j b : ℕ) → is_sign (get_or s i 0) ≡ true → offset_at s (i + 1) ≡ Ok (n, j, b) →
    Passed s i n j b (offsets_at s i) (λ m k. offsets_at s k)
offsets_at_next s i n j b t e =
    let h = sign_inside s i t in
    offset_passed s i (offsets_at s i) (λ m k. offsets_at s k) n j b h e (offsets_at_bare s i h t) (λ m k. offsets_at_value s i m k h t)
