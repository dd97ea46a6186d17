-- `range::parse_whole_range` meets its contract.
-- Assumes nothing.
use Rattle.ranges.specs.Range.{whole_range}
use Rattle.ranges.proofs.range.parse_whole_range.Goals as goal

pub returns : goal.returns
unfolding whole_range
returns c = rw (c.whole.ensures, c.parse_any_range.ensures)
