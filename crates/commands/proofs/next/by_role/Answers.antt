-- `next::by_role` meets its contract.
-- Assumes nothing.
use Rattle.commands.specs.Run.{by_role}
use Rattle.commands.proofs.next.by_role.Goals as goal

pub returns-in-Tab : goal.returns-in-Tab
unfolding by_role
returns-in-Tab c = rw (c.by_focus.ensures, c.window_range_target.ensures, c.in-Tab.is)

pub returns-in-Axis : goal.returns-in-Axis
unfolding by_role
returns-in-Axis c = rw c.in-Axis.is

pub returns-in-Side : goal.returns-in-Side
unfolding by_role
returns-in-Side c = rw c.in-Side.is

pub returns-in-Action : goal.returns-in-Action
unfolding by_role
returns-in-Action c = rw c.in-Action.is
