-- `record::put_count` meets its contract.
-- Assumes nothing.
use Rattle.actions.specs.Within.{within_then}
use Rattle.actions.proofs.record.put_count.Goals as goal

pub returns-in-Exact : goal.returns-in-Exact
returns-in-Exact c = rw c.in-Exact.is (within_then 1 10 c.put_small-i.ensures c.put_any.ensures)
