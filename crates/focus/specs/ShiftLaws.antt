-- What a range means does not depend on where it stands: a sum, a focus and a count are the same of a range of a text and of the range
-- moved by k in a text with k bytes more in front.
-- Assumes nothing.
use Rattle.std.specs.Prelude.{◌≡◌, Bool, eqb, drop, Ok, Err, Some, None}
use Rattle.std.proofs.Math.Path.{refl, ap}
use Rattle.std.proofs.Common.{◌∙◌, add_assoc}
use Rattle.std.proofs.Math.Bool.{true, false}
use mathlib.Core.List.{List, [], ◌∷◌}
use Prim.Native.Nat.{ℕ, zero, suc, ◌+◌, ◌-◌}
use native.Mathlib.Omega.{arith}
use Rattle.std.proofs.Math.Seq.{drop-drop}
use Rattle.scan.specs.Scan.{digits_from, Decimal}
use Rattle.scan.specs.Shift.{shift_decimal}
use Rattle.scan.specs.ShiftLaws.{eqb_shift, digits_next}
use Rattle.ranges.specs.Range.{is_sign, RangeRead}
use Rattle.ranges.specs.Shift.{shift_spec, shift_range}
use Rattle.ranges.specs.declared.range.MoveDir1D.{MoveDir1D}
use Rattle.ranges.specs.declared.range.RangeSpec.{RangeSpec}
use Rattle.focus.specs.Focus.{range_focus, focus_of, range_count}
use Rattle.focus.specs.FocusLaws.{end_same, count_same}
use Rattle.focus.specs.Sum.{add_to, sum_from, sum_at, sum_of, Sum}

module _ (k : ℕ) where
  -- the sum of offsets
  sum_shift : (xs : List ℕ) (m i : ℕ) (a : Sum) → sum_from m (k + i) a xs ≡ sum_from m i a xs
  unfolding sum_from shift_decimal
  sum_shift [] zero i a = refl
  sum_shift [] (suc m) i a = refl
  sum_shift (b ∷ bs) (suc m) i a = ap (λ (n : ℕ). sum_from m n a bs) (add_assoc k i 1) ∙ sum_shift bs m (i + 1) a
  sum_shift (b ∷ bs) zero i a =
      go (is_sign b) (digits_from (i + 1) bs) refl refl (λ m a. ap (λ (n : ℕ). sum_from m n a bs) (add_assoc k i 1) ∙ sum_shift bs m (i + 1) a)
    where
      go : (t : Bool) (d : Decimal) → is_sign b ≡ t → digits_from (i + 1) bs ≡ d →
          ((m : ℕ) (a : Sum) → sum_from m (k + i + 1) a bs ≡ sum_from m (i + 1) a bs) → sum_from 0 (k + i) a (b ∷ bs) ≡ sum_from 0 i a (b ∷ bs)
      go false d e f ih = rw (e, sum_from)
      go true (Ok None) e f ih = rw (e, digits_next k bs i, f, sum_from) (ih 0 (add_to a (eqb b 0x2B) 1))
      go true (Ok (Some (n, j))) e f ih =
          let q : k + j - (k + i + 1) ≡ j - (i + 1) = omega arith in
          rw (e, digits_next k bs i, f, sum_from, q) (ih (j - (i + 1)) (add_to a (eqb b 0x2B) n))
      go true (Err why) e f ih = rw (e, digits_next k bs i, f, sum_from)

  module _ (l : List ℕ) where
    sum_of_shift : (i : ℕ) → sum_of l (k + i) ≡ sum_of (drop k l) i
    unfolding sum_of sum_at
    sum_of_shift i = rw (← drop-drop i k l) (sum_shift (drop i (drop k l)) 0 i (Ok (MoveDir1D.Next, 0)))

    -- the focus of a range that wraps or not, of a range or none, and the count
    pub range_focus_shift : (g : RangeSpec) (wrap : Bool) → range_focus l (shift_spec k g) wrap ≡ range_focus (drop k l) g wrap
    unfolding range_focus shift_spec
    range_focus_shift (RangeSpec.Single e) wrap = end_same l (drop k l) (k + e.from) e.from (sum_of_shift e.from) e.atom (k + e.to) e.to wrap (eqb_shift k e.from e.to)
    range_focus_shift (RangeSpec.Double e r p) wrap = refl

    pub focus_shift : (g : RangeRead) → focus_of l (shift_range k g) ≡ focus_of (drop k l) g
    unfolding focus_of shift_range
    focus_shift (Ok None) = refl
    focus_shift (Ok (Some (g, j))) = range_focus_shift g false
    focus_shift (Err why) = refl

    pub count_shift : (g : RangeSpec) → range_count l (shift_spec k g) ≡ range_count (drop k l) g
    unfolding range_count shift_spec
    count_shift (RangeSpec.Single e) = count_same l (drop k l) (k + e.from) e.from (sum_of_shift e.from) e.atom
    count_shift (RangeSpec.Double e r p) = count_same l (drop k l) (k + r.from) r.from (sum_of_shift r.from) r.atom
