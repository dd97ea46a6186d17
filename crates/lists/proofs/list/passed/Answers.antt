-- `list::passed` meets its contract.
-- Assumes nothing.
use Rattle.lists.proofs.PickLaws.{passing_here, passing_ahead, passing_item}
use Rattle.lists.proofs.list.passed.Goals as goal

pub returns-then-n-eq0 : goal.returns-then-n-eq0
returns-then-n-eq0 c = rw c.in-Ahead.is (passing_here _ _ c.if-n-eq0.true)

pub returns-else-n-eq0 : goal.returns-else-n-eq0
returns-else-n-eq0 c = rw c.in-Ahead.is (passing_ahead _ _ c.if-n-eq0.false)

pub returns-in-Item : goal.returns-in-Item
returns-in-Item c = rw c.in-Item.is (passing_item _ _)
