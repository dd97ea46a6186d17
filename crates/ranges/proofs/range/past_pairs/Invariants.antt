-- `range::past_pairs` meets its contract. The invariant: a sign stands at i, and the offsets from i on end where those from the start do.
-- Assumes nothing.
use mathlib.Core.Path.{◌≡◌}
use mathlib.Core.Bool.{true}
use Prim.Native.Nat.{◌-◌, ◌+◌, ◌≤◌}
use lib.ListN.{length, get_or}
use Rattle.ranges.specs.Range.{is_sign, offsets_at}
use Rattle.ranges.proofs.range.past_pairs.Given as goal

abbrev pub invariant-loop-i : goal.invariant-loop-i
invariant-loop-i l = (l.last + 2 ≤ length l.s) × (is_sign (get_or l.s l.i 0) ≡ true) × (offsets_at l.s l.at ≡ offsets_at l.s l.i)

abbrev pub decreases-loop-i : goal.decreases-loop-i
decreases-loop-i l = l.last - l.i
