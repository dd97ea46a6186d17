-- `sum::sum_mods` meets its contract. The invariant: b stands at i, and the sum so far and the offsets from i on are the sum of all.
-- Assumes nothing.
use mathlib.Core.Path.{◌≡◌}
use Prim.Native.Nat.{◌-◌}
use lib.ListN.{length, get_or}
use Rattle.ranges.specs.declared.range.MoveDir1D.{MoveDir1D}
use Rattle.focus.specs.Sum.{sum_at}
use Rattle.focus.proofs.sum.sum_mods.Given as goal
use Rattle.std.specs.Prelude.{Ok}

abbrev pub invariant-loop-d : goal.invariant-loop-d
invariant-loop-d l = (l.b ≡ get_or l.s l.i 0) × (sum_at (Ok (MoveDir1D.Next, 0)) l.s l.at ≡ sum_at (Ok (l.d, l.n)) l.s l.i)

abbrev pub decreases-loop-d : goal.decreases-loop-d
decreases-loop-d l = length l.s - l.i
