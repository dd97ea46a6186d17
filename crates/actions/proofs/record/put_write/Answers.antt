-- `record::put_write` meets its contract.
-- Assumes nothing.
use native.Mathlib.Omega.{arith}
use Rattle.actions.specs.Within.{within_then, within_more}
use Rattle.actions.proofs.record.put_write.Goals as goal

pub returns : goal.returns
returns c = within_more _ _ (omega arith) (within_then _ _ c.put_small-i.ensures
    (within_then _ _ c.put_target-j.ensures (within_then _ _ c.put_written-k.ensures c.put_any.ensures)))
