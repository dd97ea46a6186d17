-- `record::put_change` meets its contract.
-- Assumes nothing.
use Rattle.actions.specs.Within.{within_then}
use Rattle.actions.proofs.record.put_change.Goals as goal

pub returns-in-Exact : goal.returns-in-Exact
returns-in-Exact c = rw c.in-Exact.is (within_then 1 10 c.put_small-i.ensures c.put_any.ensures)

pub returns-in-Increase : goal.returns-in-Increase
returns-in-Increase c = rw c.in-Increase.is (within_then 1 10 c.put_small-i-in-Increase.ensures c.put_any-in-Increase.ensures)

pub returns-in-Decrease : goal.returns-in-Decrease
returns-in-Decrease c = rw c.in-Decrease.is (within_then 1 10 c.put_small-i-in-Decrease.ensures c.put_any-in-Decrease.ensures)
