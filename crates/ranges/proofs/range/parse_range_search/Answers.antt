-- `range::parse_range_search` meets its contract.
-- Assumes nothing.
use borrow.Author.Tests.{ne_eqb}
use Rattle.ranges.specs.Range.{escaped_atom}
use Rattle.ranges.proofs.range.parse_range_search.Goals as goal

pub returns-in-47 : goal.returns-in-47
unfolding escaped_atom
returns-in-47 c = rw c.in-47.is

pub returns-in-63 : goal.returns-in-63
unfolding escaped_atom
returns-in-63 c = rw c.in-63.is

pub returns-in-38 : goal.returns-in-38
unfolding escaped_atom
returns-in-38 c = rw c.in-38.is

pub returns-in_default : goal.returns-in_default
unfolding escaped_atom
returns-in_default c = let n = c.in_default.in_default-own.rest in
    simp (ne_eqb _ _ n.0.0.1, ne_eqb _ _ n.0.1, ne_eqb _ _ n.1)
