-- Where a reading finds an end, the sum of its offsets stops where they do, and meets no number that is too large.
-- Assumes nothing.
use Rattle.std.proofs.Math.Path.{◌≡◌, refl, ap, subst}
use Rattle.std.proofs.Common.{◌∙◌, sym}
use Rattle.std.specs.Prelude.{Bool, true, false, drop, Result, Ok, Err, Some, None}
use mathlib.Core.List.{List, [], ◌∷◌}
use Prim.Native.Nat.{ℕ, zero, suc, ◌+◌, ◌-◌, ◌<◌, ◌≤◌}
use native.Mathlib.Omega.{arith}
use Rattle.std.proofs.Math.ListN.{length, length-drop, get_or-eq_default}
use Rattle.scan.specs.Scan.{byte_at, digits_from, digits_at, Decimal}
use Rattle.scan.specs.DigitsLaws.{digits_below, digits_past}
use Rattle.scan.specs.RunLaws.{drop_step}
use Rattle.ranges.specs.Bounds.{off_stop, off_bare, off_value, off_large, value_room}
use Rattle.ranges.specs.EndsLaws.{AllEnds, range_ends}
use Rattle.ranges.specs.Offset.{offset_of, offset_at}
use Rattle.ranges.specs.Range.{is_sign, atom_at, offsets_from, offsets_at, with_offsets, after_atom, ending_at, range_at, AtomRead}
use Rattle.ranges.specs.declared.range.RangeEnding.{RangeEnding}
use Rattle.ranges.specs.declared.range.RangeEndingType.{RangeEndingType}
use Rattle.ranges.specs.declared.range.RangeSpec.{RangeSpec}
use Rattle.focus.specs.Offsets.{Signed, Offsets, add_all, Summed, EndSummed}
use Rattle.focus.specs.Sum.{sum_at, Sum}
use Rattle.focus.specs.SumLaws.{sum_none, sum_next}
use Rattle.limits.specs.declared.refusal.Refusal.{Refusal}

-- the sum is that of the offsets that stand there
pub sum_offsets : {s : List ℕ} {i j : ℕ} {os : List Signed} → Offsets s i j os → (a : Sum) → sum_at a s i ≡ add_all a os
unfolding add_all
sum_offsets {s} {i} (Offsets.none h) a = sum_none a s i h
sum_offsets {s} {i} (Offsets.more {n = n} {k = k} {b = b} h e z r) a = (sum_next a s i n k b h e).goes ∙ sum_offsets r _

-- no sign past the end
end_sign : (s : List ℕ) (i : ℕ) → length s ≤ i → is_sign (byte_at s i) ≡ false
unfolding is_sign
end_sign s i h = ap is_sign (get_or-eq_default s 0 h)

-- one byte of what is left
record Left (s : List ℕ) (i b : ℕ) (bs : List ℕ) : Type 0 where
  inside : i < length s
  first : byte_at s i ≡ b
  rest : drop (i + 1) s ≡ bs
  digits : digits_at s (i + 1) ≡ digits_from (i + 1) bs

left : (s : List ℕ) (i b : ℕ) (bs : List ℕ) → drop i s ≡ b ∷ bs → Left s i b bs
unfolding digits_at
left s i b bs e =
    let h : i < length s = omega (arith, ap length e, length-drop i s) in
    let d = drop_step s i h in
    let r : drop (i + 1) s ≡ bs = cc in
    record { inside = h; first = cc; rest = r; digits = ap (digits_from (i + 1)) r }

-- the offsets that stand from i up to j
record Listed (s : List ℕ) (i j : ℕ) : Type 0 where
  offsets : List Signed
  stand : Offsets s i j offsets

module _ (s : List ℕ) (j : ℕ) where
  listed_none : (i : ℕ) → is_sign (byte_at s i) ≡ false → ◌≡◌ {A = Result ℕ Refusal} (Ok i) (Ok j) → Listed s i j
  listed_none i h e = let q : i ≡ j = cc in subst (Listed s i) q (record { offsets = []; stand = Offsets.none h })

  listed_bare : (i : ℕ) → is_sign (byte_at s i) ≡ true → digits_at s (i + 1) ≡ Ok None → Listed s (i + 1) j → Listed s i j
  unfolding offset_at offset_of
  listed_bare i h d r = record { offsets = _; stand = Offsets.more {n = 1} {k = i + 1} {b = byte_at s (i + 1)} h (ap (offset_of s (i + 1)) d) (omega arith) r.stand }

  listed_value : (i n k : ℕ) → is_sign (byte_at s i) ≡ true → digits_at s (i + 1) ≡ Ok (Some (n, k)) → Listed s k j → Listed s i j
  unfolding offset_at offset_of digits_at
  listed_value i n k h d r =
      record { offsets = _; stand = Offsets.more {n = n} {k = k} {b = byte_at s k} h (ap (offset_of s (i + 1)) d) (digits_below (i + 1) (drop (i + 1) s) n k d) r.stand }

  listed_from : (xs : List ℕ) (k i : ℕ) → drop i s ≡ xs → k ≤ length xs → offsets_from k i xs ≡ Ok j → Listed s (i + k) j
  unfolding offsets_from
  listed_from [] zero i e h r =
      let q : i ≡ i + 0 = omega arith in
      subst (λ (m : ℕ). Listed s m j) q (listed_none i (end_sign s i (omega (arith, ap length e, length-drop i s))) r)
  listed_from [] (suc k) i e h r = absurd (omega arith)
  listed_from (b ∷ bs) (suc k) i e h r =
      let q : i + 1 + k ≡ i + suc k = omega arith in
      subst (λ (m : ℕ). Listed s m j) q (listed_from bs k (i + 1) (left s i b bs e).rest (omega arith) r)
  listed_from (b ∷ bs) zero i e h r =
      let q : i ≡ i + 0 = omega arith in
      subst (λ (m : ℕ). Listed s m j) q (go (is_sign b) (digits_from (i + 1) bs) refl refl (λ k. listed_from bs k (i + 1) l.rest))
    where
      l : Left s i b bs
      l = left s i b bs e

      go : (t : Bool) (d : Decimal) → is_sign b ≡ t → digits_from (i + 1) bs ≡ d →
          ((k : ℕ) → k ≤ length bs → offsets_from k (i + 1) bs ≡ Ok j → Listed s (i + 1 + k) j) → Listed s i j
      go false d f g ih = listed_none i (ap is_sign l.first ∙ f) (sym (off_stop i b bs f) ∙ r)
      go true (Ok None) f g ih =
          let q : i + 1 + 0 ≡ i + 1 = omega arith in
          listed_bare i (ap is_sign l.first ∙ f) (l.digits ∙ g) (subst (λ (m : ℕ). Listed s m j) q (ih 0 (omega arith) (sym (off_bare i b bs f g) ∙ r)))
      go true (Ok (Some (n, k))) f g ih =
          let w = digits_past s (i + 1) n k (omega (arith, l.inside)) (l.digits ∙ g) in
          let q : i + 1 + (k - (i + 1)) ≡ k = omega (arith, w) in
          listed_value i n k (ap is_sign l.first ∙ f) (l.digits ∙ g)
          (subst (λ (m : ℕ). Listed s m j) q (ih (k - (i + 1)) (value_room i b bs n k g) (sym (off_value i b bs n k f g) ∙ r)))
      go true (Err why) f g ih =
          let c = off_large i b bs f g in
          let z : ◌≡◌ {A = ℕ} 0 1 = cc in
          absurd (omega arith)

module _ (s : List ℕ) where
  -- offsets that are read
  pub offsets_summed : (i j : ℕ) → offsets_at s i ≡ Ok j → Summed s i j
  unfolding offsets_at
  offsets_summed i j e =
      let q : i + 0 ≡ i = omega arith in
      let l = subst (λ (m : ℕ). Listed s m j) q (listed_from s j (drop i s) 0 i refl (omega arith) e) in
      record { offsets = l.offsets; stand = l.stand; sum = sum_offsets l.stand }

  -- an end that is read
  with_summed : (a : RangeEndingType) (i : ℕ) (r : Result ℕ Refusal) (e : RangeEnding) → offsets_at s i ≡ r → with_offsets a i r ≡ Ok e → EndSummed s e
  unfolding with_offsets
  with_summed a i (Ok j) e h k =
      let q : record { atom = a; from = i; to = j } ≡ e = cc in
      subst (EndSummed s) q (offsets_summed i j h)
  with_summed a i (Err why) e h k = let z : ◌≡◌ {A = ℕ} 0 1 = cc in absurd (omega arith)

  after_summed : (i : ℕ) (a : AtomRead) (e : RangeEnding) → after_atom s i a ≡ Ok e → EndSummed s e
  unfolding after_atom
  after_summed i (Ok None) e k = with_summed RangeEndingType.Unspecified i (offsets_at s i) e refl k
  after_summed i (Ok (Some (a, j))) e k = with_summed a j (offsets_at s j) e refl k
  after_summed i (Err why) e k = let z : ◌≡◌ {A = ℕ} 0 1 = cc in absurd (omega arith)

  pub ending_summed : (i : ℕ) (e : RangeEnding) → ending_at s i ≡ Ok e → EndSummed s e
  unfolding ending_at
  ending_summed i e k = after_summed i (atom_at s i) e k

  -- both ends of a range that is read
  pub range_summed : (i : ℕ) (g : RangeSpec) (j : ℕ) → range_at s i ≡ Ok (Some (g, j)) → AllEnds (EndSummed s) g
  range_summed i g j q = range_ends s (EndSummed s) i g j q (ending_summed i) (λ m e z. ending_summed (m + 1) e)
