-- `next::by_focus` meets its contract.
-- Assumes nothing.
use Rattle.commands.specs.Run.{by_focus}
use Rattle.commands.proofs.next.by_focus.Goals as goal

pub returns-in-Ok : goal.returns-in-Ok
unfolding by_focus
returns-in-Ok c = rw c.in-Ok.is

pub returns-in-Err : goal.returns-in-Err
unfolding by_focus
returns-in-Err c = rw c.in-Err.is
