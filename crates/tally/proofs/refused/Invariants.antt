-- `tally::refused` meets its contract.
-- Assumes nothing.
use Rattle.std.proofs.Common.{◌≡◌}
use Rattle.tally.specs.Tally.{sum_up_to}
use Rattle.tally.proofs.refused.Given as goal

abbrev pub invariant-loop-i : goal.invariant-loop-i
invariant-loop-i l = l.n ≡ sum_up_to l.t l.i
