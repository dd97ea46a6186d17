-- `record::put_closed` meets its contract.
-- Assumes nothing.
use Prim.Native.Nat.{◌+◌}
use Rattle.actions.specs.Within.{within_then}
use Rattle.actions.proofs.record.put_closed.Goals as goal

pub returns : goal.returns
returns c = within_then 1 (15 + 10) c.put_small-i.ensures
    (within_then 15 10 c.put_target-j.ensures c.put_any.ensures)
