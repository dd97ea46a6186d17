-- `tally::added` meets its contract.
-- Assumes nothing.
use Rattle.tally.specs.Tally.{added_to}
use Rattle.tally.proofs.added.Goals as goal

pub returns : goal.returns
unfolding added_to
returns c = c.wrapping_add_u64.ensures.value
