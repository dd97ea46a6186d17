-- What holds of each end that is read holds of the ends of a range that is read.
-- Assumes nothing.
use Rattle.std.specs.Prelude.{◌≡◌, Bool, true, false, cond, List, ℕ, ◌+◌, ◌<◌, ◌≤◌, eqb, length, Result, Ok, Err, Some, None}
use Rattle.std.proofs.Math.Path.{refl, subst}
use Rattle.std.proofs.Common.{arith, eqb-true}
use Rattle.scan.specs.Scan.{byte_at}
use Rattle.scan.specs.RunLaws.{byte_inside}
use Rattle.ranges.specs.Bounds.{EndingIn, ending_at_in}
use Rattle.ranges.specs.Range.{ending_at, double, after_first, range_at, RangeRead}
use Rattle.ranges.specs.declared.range.RangeEnding.{RangeEnding}
use Rattle.ranges.specs.declared.range.RangeSearchInit.{RangeSearchInit}
use Rattle.ranges.specs.declared.range.RangeSpec.{RangeSpec}
use Rattle.limits.specs.declared.refusal.Refusal.{Refusal}

-- of each end of a range
abbrev pub AllEnds : (RangeEnding → Type 0) → RangeSpec → Type 0
AllEnds P (RangeSpec.Single e) = P e
AllEnds P (RangeSpec.Double l r p) = P l × P r

module _ (s : List ℕ) (P : RangeEnding → Type 0) where
  abbrev AllRead : RangeRead → Type 0
  AllRead (Ok None) = Unit {0}
  AllRead (Ok (Some (g, j))) = AllEnds P g
  AllRead (Err why) = Unit {0}

  double_ends : (l : RangeEnding) (p : RangeSearchInit) (r : Result RangeEnding Refusal) → P l → ((e : RangeEnding) → r ≡ Ok e → P e) → AllRead (double l p r)
  unfolding double
  double_ends l p (Ok e) h k = (h, k e refl)
  double_ends l p (Err why) h k = tt

  first_ends : (i : ℕ) (r : Result RangeEnding Refusal) → ((e : RangeEnding) → r ≡ Ok e → P e) →
      ((m : ℕ) (e : RangeEnding) → m < length s → ending_at s (m + 1) ≡ Ok e → P e) → AllRead (after_first s i r)
  unfolding after_first
  first_ends i (Err why) h k = tt
  first_ends i (Ok l) h k = go (eqb (byte_at s l.to) 0x2C) (eqb (byte_at s l.to) 0x3B) (eqb l.to i) refl refl
    where
      two : (c : ℕ) (p : RangeSearchInit) → 0 < c → byte_at s l.to ≡ c → AllRead (double l p (ending_at s (l.to + 1)))
      two c p z q = double_ends l p (ending_at s (l.to + 1)) (h l refl) (λ e. k l.to e (byte_inside s l.to c q z))

      go : (t u v : Bool) → eqb (byte_at s l.to) 0x2C ≡ t → eqb (byte_at s l.to) 0x3B ≡ u →
          AllRead (cond t (double l RangeSearchInit.Cursor (ending_at s (l.to + 1)))
          (cond u (double l RangeSearchInit.Start (ending_at s (l.to + 1))) (cond v (Ok None) (Ok (Some (RangeSpec.Single l, l.to))))))
      go true u v e f = two 0x2C RangeSearchInit.Cursor (omega arith) (eqb-true (byte_at s l.to) 0x2C e)
      go false true v e f = two 0x3B RangeSearchInit.Start (omega arith) (eqb-true (byte_at s l.to) 0x3B f)
      go false false true e f = tt
      go false false false e f = h l refl

  -- the first end is read at i, the second behind a byte of the text
  pub range_ends : (i : ℕ) (g : RangeSpec) (j : ℕ) → range_at s i ≡ Ok (Some (g, j)) → ((e : RangeEnding) → ending_at s i ≡ Ok e → P e) →
      ((m : ℕ) (e : RangeEnding) → m < length s → ending_at s (m + 1) ≡ Ok e → P e) → AllEnds P g
  unfolding range_at
  range_ends i g j q h k = subst AllRead q (first_ends i (ending_at s i) h k)

-- the offsets of each end start in the text
abbrev pub FromIn : ℕ → RangeEnding → Type 0
FromIn n e = e.from ≤ n

ending_from : (s : List ℕ) (i : ℕ) (e : RangeEnding) → i ≤ length s → ending_at s i ≡ Ok e → FromIn (length s) e
ending_from s i e h q = let k = subst (EndingIn i (length s)) q (ending_at_in s i h) in omega arith

pub range_from : (s : List ℕ) (i : ℕ) (g : RangeSpec) (j : ℕ) → i ≤ length s → range_at s i ≡ Ok (Some (g, j)) → AllEnds (FromIn (length s)) g
range_from s i g j h q =
    range_ends s (FromIn (length s)) i g j q (λ e. ending_from s i e h) (λ m e z. ending_from s (m + 1) e (omega arith))
