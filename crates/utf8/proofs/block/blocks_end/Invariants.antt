-- `block::blocks_end` meets its contract. The invariant: what the two bytes at `at` tell, those at t tell.
-- Assumes nothing.
use Rattle.std.proofs.Common.{ℕ, ◌+◌, ◌-◌, ◌≤◌, length}
use Rattle.utf8.specs.Utf8Blocks.{PlaceAt}
use Rattle.utf8.proofs.block.blocks_end.Given as goal

abbrev pub invariant-loop-t : goal.invariant-loop-t
invariant-loop-t l = (l.t + 2 ≤ length l.s) × ((i : ℕ) → PlaceAt l.s i l.at → PlaceAt l.s i l.t)

abbrev pub decreases-loop-t : goal.decreases-loop-t
decreases-loop-t l = length l.s - l.t
