-- `record::put_window` meets its contract.
-- Assumes nothing.
use native.Mathlib.Omega.{arith}
use Rattle.actions.specs.Within.{within_then, within_more}
use Rattle.actions.proofs.record.put_window.Goals as goal

pub returns : goal.returns
returns c = within_more _ _ (omega arith) (within_then _ _ c.put_small-h.ensures
    (within_then _ _ c.put_opened-i.ensures (within_then _ _ c.put_any-j.ensures
    (within_then _ _ c.put_case-k.ensures (within_then _ _ c.put_case-l.ensures c.put_count.ensures)))))
