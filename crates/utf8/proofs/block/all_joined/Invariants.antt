-- `block::all_joined` meets its contract. The invariant: while no byte was odd, each of the i passed stands well.
-- Assumes nothing.
use Rattle.std.proofs.Common.{◌≡◌, true}
use Rattle.utf8.specs.Utf8Blocks.{JoinedFrom}
use Rattle.utf8.proofs.block.all_joined.Given as goal

abbrev pub invariant-loop-i : goal.invariant-loop-i
invariant-loop-i l = l.m ≡ true → JoinedFrom l.s l.t l.i
