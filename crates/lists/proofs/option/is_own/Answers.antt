-- `option::is_own` meets its contract.
-- Assumes nothing.
use Rattle.lists.specs.Text.{own}
use Rattle.lists.proofs.option.is_own.Goals as goal

pub returns-then-quoted : goal.returns-then-quoted
unfolding own
returns-then-quoted c = rw c.if-quoted.true c.has.ensures

pub returns-else-quoted : goal.returns-else-quoted
unfolding own
returns-else-quoted c = rw c.if-quoted.false c.has-else-quoted.ensures
