-- `tally::tallied` meets its contract.
-- Assumes nothing.
use Rattle.tally.specs.Tally.{with_line}
use Rattle.tally.proofs.tallied.Goals as goal

pub returns : goal.returns
unfolding with_line
returns c = rw (c.added.ensures, c.outcome-i.ensures.value)
