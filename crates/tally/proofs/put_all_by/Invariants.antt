-- `tally::put_all_by` meets its contract.
-- Assumes nothing.
use Rattle.texts.specs.Written.{Adds}
use Rattle.tally.proofs.put_all_by.Given as goal

abbrev pub invariant-loop-n : goal.invariant-loop-n
invariant-loop-n l = Adds l.fn.page l.page
