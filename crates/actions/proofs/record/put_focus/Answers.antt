-- `record::put_focus` meets its contract.
-- Assumes nothing.
use native.Mathlib.Omega.{arith}
use Rattle.actions.specs.Within.{within_then, within_more}
use Rattle.actions.proofs.record.put_focus.Goals as goal

pub returns-in-Offset : goal.returns-in-Offset
returns-in-Offset c = rw c.in-Offset.is
    (within_more 11 14 (omega arith) (within_then 1 10 c.put_small-i.ensures c.put_any.ensures))

pub returns-in-Direction1D : goal.returns-in-Direction1D
returns-in-Direction1D c = rw c.in-Direction1D.is (within_then 1 13 c.put_small-i-in-Direction1D.ensures
    (within_then 1 12 c.put_case-j.ensures (within_then 11 1 c.put_count-k.ensures c.put_case.ensures)))
