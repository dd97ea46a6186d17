-- `list::item_of` meets its contract.
-- Assumes nothing.
use borrow.Author.Tests.{eq-eqb, ne_eqb}
use Rattle.lists.specs.Lists.{item_of}
use Rattle.lists.proofs.list.item_of.Goals as goal

pub returns-then-j-i : goal.returns-then-j-i
unfolding item_of
returns-then-j-i c = rw (c.in_ok-j.was, eq-eqb _ _ c.if-j-i.true)

pub returns-else-j-i : goal.returns-else-j-i
unfolding item_of
returns-else-j-i c = rw (c.in_ok-j.was, ne_eqb _ _ c.if-j-i.false)

pub returns-in_err-j : goal.returns-in_err-j
unfolding item_of
returns-in_err-j c = rw (c.from_residual.ensures, c.in_err-j.was)
