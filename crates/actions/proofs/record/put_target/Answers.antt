-- `record::put_target` meets its contract.
-- Assumes nothing.
use Rattle.actions.specs.Within.{within_then}
use Rattle.actions.proofs.record.put_target.Goals as goal

pub returns-in-Single : goal.returns-in-Single
returns-in-Single c = rw c.in-Single.is (within_then 1 14 c.put_small-i.ensures c.put_focus.ensures)

pub returns-in-AllBut : goal.returns-in-AllBut
returns-in-AllBut c = rw c.in-AllBut.is (within_then 1 14 c.put_small-i-in-AllBut.ensures c.put_focus-in-AllBut.ensures)
