-- `record::put_written` meets its contract.
-- Assumes nothing.
use native.Mathlib.Omega.{arith}
use Rattle.actions.specs.Within.{within_then, within_more}
use Rattle.actions.proofs.record.put_written.Goals as goal

pub returns-in-Some : goal.returns-in-Some
returns-in-Some c = rw c.in-Some.is
    (within_more _ _ (omega arith) (within_then _ _ c.put_small-i.ensures c.put_item_within.ensures))
