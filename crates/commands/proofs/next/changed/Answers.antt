-- `next::changed` meets its contract.
-- Assumes nothing.
use Rattle.commands.specs.Run.{change}
use Rattle.commands.proofs.next.changed.Goals as goal

pub returns-in-Tab : goal.returns-in-Tab
unfolding change
returns-in-Tab c = rw (c.with_tab.ensures, c.in-Tab.is)

pub returns-in-Axis : goal.returns-in-Axis
unfolding change
returns-in-Axis c = rw (c.with_axis.ensures, c.in-Axis.is)

pub returns-in-Side : goal.returns-in-Side
unfolding change
returns-in-Side c = rw (c.with_side.ensures, c.in-Side.is)
