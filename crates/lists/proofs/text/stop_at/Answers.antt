-- `text::stop_at` meets its contract.
-- Assumes nothing.
use borrow.Author.Tests.{eq-eqb, ne_eqb}
use Rattle.lists.specs.Text.{stop_at}
use Rattle.lists.proofs.text.stop_at.Goals as goal

pub returns-then-b-eq34 : goal.returns-then-b-eq34
unfolding stop_at
returns-then-b-eq34 c = rw (c.if-quoted.true, eq-eqb _ _ c.if-b-eq34.true)

pub returns-then-quoted : goal.returns-then-quoted
unfolding stop_at
returns-then-quoted c = rw (c.if-quoted.true, ne_eqb _ _ c.if-b-eq34.false)

pub returns : goal.returns
unfolding stop_at
returns c = rw c.if-quoted.false
