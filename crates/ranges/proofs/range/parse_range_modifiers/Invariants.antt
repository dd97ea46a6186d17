-- `range::parse_range_modifiers` meets its contract. The invariant: b stands at i, and the offsets from i on end where those from the start do.
-- Assumes nothing.
use mathlib.Core.Path.{◌≡◌}
use Prim.Native.Nat.{◌-◌}
use lib.ListN.{length, get_or}
use Rattle.ranges.specs.Range.{offsets_at}
use Rattle.ranges.proofs.range.parse_range_modifiers.Given as goal

abbrev pub invariant-loop-at : goal.invariant-loop-at
invariant-loop-at l = (l.b ≡ get_or l.s l.i 0) × (offsets_at l.s l.at ≡ offsets_at l.s l.i)

abbrev pub decreases-loop-at : goal.decreases-loop-at
decreases-loop-at l = length l.s - l.i
