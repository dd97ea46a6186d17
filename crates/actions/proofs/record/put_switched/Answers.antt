-- `record::put_switched` meets its contract.
-- Assumes nothing.
use native.Mathlib.Omega.{arith}
use Rattle.actions.specs.Within.{within_then, within_more}
use Rattle.actions.proofs.record.put_switched.Goals as goal

pub returns : goal.returns
returns c = within_more _ _ (omega arith) (within_then _ _ c.put_small-i.ensures
    (within_then _ _ c.put_opened-j.ensures c.put_any.ensures))
