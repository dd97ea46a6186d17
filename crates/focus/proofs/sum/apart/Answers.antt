-- `sum::apart` meets its contract.
-- Assumes nothing.
use borrow.Author.Tests.{le-leb, lt-leb}
use Rattle.focus.specs.Sum.{apart}
use Rattle.focus.proofs.sum.apart.Goals as goal

pub returns-then-k-n : goal.returns-then-k-n
unfolding apart
returns-then-k-n c = rw (le-leb _ _ c.if-k-n.true)

pub returns : goal.returns
unfolding apart
returns c = rw (lt-leb _ _ c.if-k-n.false)
