-- `record::put_focused` meets its contract.
-- Assumes nothing.
use Rattle.actions.specs.Within.{within_then}
use Rattle.actions.proofs.record.put_focused.Goals as goal

pub returns : goal.returns
returns c = within_then 1 14 c.put_small-i.ensures c.put_focus.ensures
