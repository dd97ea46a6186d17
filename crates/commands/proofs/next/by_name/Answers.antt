-- `next::by_name` meets its contract.
-- Assumes nothing.
use Rattle.commands.specs.Run.{by_name}
use Rattle.commands.proofs.next.by_name.Goals as goal

pub returns-in-Some : goal.returns-in-Some
unfolding by_name
returns-in-Some c = rw (c.by_role.ensures, c.from.ensures, c.in-Some.is)

pub returns-in-None : goal.returns-in-None
unfolding by_name
returns-in-None c = rw c.in-None.is
