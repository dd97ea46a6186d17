-- `record::put_tab_action` meets its contract.
-- Assumes nothing.
use native.Mathlib.Omega.{arith}
use Rattle.actions.specs.Within.{within_then, within_more}
use Rattle.actions.proofs.record.put_tab_action.Goals as goal

pub returns-in-Open : goal.returns-in-Open
returns-in-Open c = rw c.in-Open.is (within_more _ _ (omega arith) (within_then _ _ c.put_small-i.ensures
    (within_then _ _ c.put_opened-j.ensures (within_then _ _ c.put_any-k.ensures c.put_focus.ensures))))
