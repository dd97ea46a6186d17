-- `sum::sum_pairs` meets its contract. The invariant: b is a sign and stands at i, and the sum so far and the offsets from i on are the sum
-- of all.
-- Assumes nothing.
use mathlib.Core.Path.{◌≡◌}
use mathlib.Core.Bool.{true}
use Prim.Native.Nat.{◌-◌, ◌+◌, ◌≤◌}
use lib.ListN.{length, get_or}
use Rattle.ranges.specs.Range.{is_sign}
use Rattle.ranges.specs.declared.range.MoveDir1D.{MoveDir1D}
use Rattle.focus.specs.Sum.{sum_at}
use Rattle.focus.proofs.sum.sum_pairs.Given as goal
use Rattle.std.specs.Prelude.{Ok}

abbrev pub invariant-loop-i : goal.invariant-loop-i
invariant-loop-i l =
    (l.last + 2 ≤ length l.s) × (l.b ≡ get_or l.s l.i 0) × (is_sign (get_or l.s l.i 0) ≡ true) × (sum_at (Ok (MoveDir1D.Next, 0)) l.s l.at ≡ sum_at (Ok (l.d, l.n)) l.s l.i)

abbrev pub decreases-loop-i : goal.decreases-loop-i
decreases-loop-i l = l.last - l.i
