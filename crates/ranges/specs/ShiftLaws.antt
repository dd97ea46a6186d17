-- A reader of ranges at k + i of a text answers what it answers at i of the text without its first k bytes, its positions moved by k.
-- Assumes nothing.
use Rattle.std.specs.Prelude.{◌≡◌, Bool, eqb, drop, Result, Ok, Err, Some, None}
use Rattle.std.proofs.Math.Path.{refl, ap}
use Rattle.std.proofs.Common.{◌∙◌, sym}
use Rattle.std.proofs.Math.Bool.{true, false}
use mathlib.Core.List.{List, [], ◌∷◌}
use Prim.Native.Nat.{ℕ, zero, suc, ◌+◌, ◌-◌}
use Rattle.std.proofs.Math.Nat.{add_assoc}
use native.Mathlib.Omega.{arith}
use Rattle.std.proofs.Math.Seq.{drop-drop}
use Rattle.scan.specs.Bytes.{is_mark}
use Rattle.scan.specs.Scan.{byte_at, digits_from, digits_at, Decimal}
use Rattle.scan.specs.Shift.{shift_decimal}
use Rattle.scan.specs.ShiftLaws.{cond_shift, eqb_shift, digits_next, byte_shift, digits_at_shift}
use Rattle.ranges.specs.Bounds.{off_stop, off_bare, off_value, off_large}
use Rattle.ranges.specs.Range.{escaped_atom, mark_atom, sign_atom, number_or, atom_at, is_sign, offsets_from, offsets_at, with_offsets, after_atom, ending_at, double, after_first, range_at, AtomRead}
use Rattle.ranges.specs.Shift.{shift_atom, shift_offsets, shift_end, shift_ending, shift_spec, shift_range}
use Rattle.ranges.specs.declared.range.RangeEnding.{RangeEnding}
use Rattle.ranges.specs.declared.range.RangeEndingType.{RangeEndingType}
use Rattle.ranges.specs.declared.range.RangeSearchInit.{RangeSearchInit}
use Rattle.limits.specs.declared.refusal.Refusal.{Refusal}

module _ (k : ℕ) where
  -- atoms by their bytes
  found_shift : (a : RangeEndingType) (i n : ℕ) → Ok (Some (a, k + i + n)) ≡ shift_atom k (Ok (Some (a, i + n)))
  unfolding shift_atom
  found_shift a i n = ap ((λ x. Ok (Some (a, x)))) (add_assoc k i n)

  absent_shift : Ok None ≡ shift_atom k (Ok None)
  unfolding shift_atom
  absent_shift = refl

  escaped_shift : (i b : ℕ) → escaped_atom (k + i) b ≡ shift_atom k (escaped_atom i b)
  unfolding escaped_atom
  escaped_shift i b =
      cond_shift (shift_atom k) (eqb b 0x2F) (found_shift _ i 2)
      (cond_shift (shift_atom k) (eqb b 0x3F) (found_shift _ i 2)
      (cond_shift (shift_atom k) (eqb b 0x26) (found_shift _ i 2) absent_shift))

  mark_shift : (i b : ℕ) → mark_atom (k + i) b ≡ shift_atom k (mark_atom i b)
  unfolding mark_atom
  mark_shift i b = cond_shift (shift_atom k) (is_mark b) (found_shift (RangeEndingType.Mark b) i 2) absent_shift

  sign_shift : (i b d : ℕ) → sign_atom (k + i) b d ≡ shift_atom k (sign_atom i b d)
  unfolding sign_atom
  sign_shift i b d =
      cond_shift (shift_atom k) (eqb b 0x2E) (found_shift _ i 1)
      (cond_shift (shift_atom k) (eqb b 0x25) (found_shift _ i 1)
      (cond_shift (shift_atom k) (eqb b 0x24) (found_shift _ i 1)
      (cond_shift (shift_atom k) (eqb b 0x5C) (escaped_shift i d) (cond_shift (shift_atom k) (eqb b 0x27) (mark_shift i d) absent_shift))))

  number_shift : (d : Decimal) (a : AtomRead) → number_or (shift_decimal k d) (shift_atom k a) ≡ shift_atom k (number_or d a)
  unfolding number_or shift_decimal shift_atom
  number_shift (Ok None) a = refl
  number_shift (Ok (Some (n, j))) a = refl
  number_shift (Err why) a = refl

  -- offsets
  offsets_shift : (xs : List ℕ) (m i : ℕ) → offsets_from m (k + i) xs ≡ shift_offsets k (offsets_from m i xs)
  unfolding offsets_from shift_offsets shift_decimal
  offsets_shift [] zero i = refl
  offsets_shift [] (suc m) i = refl
  offsets_shift (b ∷ bs) (suc m) i = ap (λ (n : ℕ). offsets_from m n bs) (add_assoc k i 1) ∙ offsets_shift bs m (i + 1)
  offsets_shift (b ∷ bs) zero i =
      go (is_sign b) (digits_from (i + 1) bs) refl refl (λ m. ap (λ (n : ℕ). offsets_from m n bs) (add_assoc k i 1) ∙ offsets_shift bs m (i + 1))
    where
      go : (t : Bool) (d : Decimal) → is_sign b ≡ t → digits_from (i + 1) bs ≡ d →
          ((m : ℕ) → offsets_from m (k + i + 1) bs ≡ shift_offsets k (offsets_from m (i + 1) bs)) → offsets_from 0 (k + i) (b ∷ bs) ≡ shift_offsets k (offsets_from 0 i (b ∷ bs))
      go false d e f ih = off_stop (k + i) b bs e ∙ ap (shift_offsets k) (sym (off_stop i b bs e))
      go true (Ok None) e f ih =
          off_bare (k + i) b bs e (digits_next k bs i ∙ ap (shift_decimal k) f) ∙ ih 0 ∙ ap (shift_offsets k) (sym (off_bare i b bs e f))
      go true (Ok (Some (n, j))) e f ih =
          let q : k + j - (k + i + 1) ≡ j - (i + 1) = omega arith in
          off_value (k + i) b bs n (k + j) e (digits_next k bs i ∙ ap (shift_decimal k) f)
          ∙ ap (λ (m : ℕ). offsets_from m (k + i + 1) bs) q
          ∙ ih (j - (i + 1))
          ∙ ap (shift_offsets k) (sym (off_value i b bs n j e f))
      go true (Err why) e f ih =
          off_large (k + i) b bs e (digits_next k bs i ∙ ap (shift_decimal k) f) ∙ ap (shift_offsets k) (sym (off_large i b bs e f))

  -- ends and ranges by their parts
  with_shift : (a : RangeEndingType) (i : ℕ) (r : Result ℕ Refusal) → with_offsets a (k + i) (shift_offsets k r) ≡ shift_ending k (with_offsets a i r)
  unfolding with_offsets shift_offsets shift_ending
  with_shift a i (Ok j) = refl
  with_shift a i (Err why) = refl

  double_shift : (e : RangeEnding) (p : RangeSearchInit) (r : Result RangeEnding Refusal) → double (shift_end k e) p (shift_ending k r) ≡ shift_range k (double e p r)
  unfolding double shift_ending shift_spec shift_range
  double_shift e p (Ok r) = refl
  double_shift e p (Err why) = refl

  module _ (l : List ℕ) where
    atom_at_shift : (i : ℕ) → atom_at l (k + i) ≡ shift_atom k (atom_at (drop k l) i)
    unfolding atom_at
    atom_at_shift i =
        rw (digits_at_shift k l i, add_assoc k i 1, byte_shift k l i, byte_shift k l (i + 1), sign_shift i (byte_at (drop k l) i) (byte_at (drop k l) (i + 1)))
        (number_shift (digits_at (drop k l) i) (sign_atom i (byte_at (drop k l) i) (byte_at (drop k l) (i + 1))))

    offsets_at_shift : (i : ℕ) → offsets_at l (k + i) ≡ shift_offsets k (offsets_at (drop k l) i)
    unfolding offsets_at
    offsets_at_shift i = rw (← drop-drop i k l) (offsets_shift (drop i (drop k l)) 0 i)

    after_atom_shift : (i : ℕ) (a : AtomRead) → after_atom l (k + i) (shift_atom k a) ≡ shift_ending k (after_atom (drop k l) i a)
    unfolding after_atom shift_atom shift_ending
    after_atom_shift i (Ok None) = rw (offsets_at_shift i) (with_shift RangeEndingType.Unspecified i (offsets_at (drop k l) i))
    after_atom_shift i (Ok (Some (a, j))) = rw (offsets_at_shift j) (with_shift a j (offsets_at (drop k l) j))
    after_atom_shift i (Err why) = refl

    ending_at_shift : (i : ℕ) → ending_at l (k + i) ≡ shift_ending k (ending_at (drop k l) i)
    unfolding ending_at
    ending_at_shift i = rw (atom_at_shift i) (after_atom_shift i (atom_at (drop k l) i))

    ending_next : (i : ℕ) → ending_at l (k + i + 1) ≡ shift_ending k (ending_at (drop k l) (i + 1))
    ending_next i = ap (ending_at l) (add_assoc k i 1) ∙ ending_at_shift (i + 1)

    after_first_shift : (i : ℕ) (r : Result RangeEnding Refusal) → after_first l (k + i) (shift_ending k r) ≡ shift_range k (after_first (drop k l) i r)
    unfolding after_first shift_ending shift_spec shift_range
    after_first_shift i (Err why) = refl
    after_first_shift i (Ok e) =
        rw (byte_shift k l e.to, ending_next e.to, eqb_shift k e.to i)
        (cond_shift (shift_range k) (eqb (byte_at (drop k l) e.to) 0x2C) (double_shift e RangeSearchInit.Cursor (ending_at (drop k l) (e.to + 1)))
        (cond_shift (shift_range k) (eqb (byte_at (drop k l) e.to) 0x3B) (double_shift e RangeSearchInit.Start (ending_at (drop k l) (e.to + 1)))
        (cond_shift (shift_range k) (eqb e.to i) refl refl)))

    pub range_at_shift : (i : ℕ) → range_at l (k + i) ≡ shift_range k (range_at (drop k l) i)
    unfolding range_at
    range_at_shift i = rw (ending_at_shift i) (after_first_shift i (ending_at (drop k l) i))
