-- `range::parse_range_sign` meets its contract.
-- Assumes nothing.
use borrow.Author.Tests.{ne_eqb}
use Rattle.ranges.specs.Range.{sign_atom}
use Rattle.ranges.proofs.range.parse_range_sign.Goals as goal

pub returns-in-46 : goal.returns-in-46
unfolding sign_atom
returns-in-46 c = rw c.in-46.is

pub returns-in-37 : goal.returns-in-37
unfolding sign_atom
returns-in-37 c = rw c.in-37.is

pub returns-in-36 : goal.returns-in-36
unfolding sign_atom
returns-in-36 c = rw c.in-36.is

pub returns-in-92 : goal.returns-in-92
unfolding sign_atom
returns-in-92 c = rw (c.parse_range_search.ensures, c.in-92.is)

pub returns-in-39 : goal.returns-in-39
unfolding sign_atom
returns-in-39 c = rw (c.parse_range_mark.ensures, c.in-39.is)

pub returns-in_default : goal.returns-in_default
unfolding sign_atom
returns-in_default c = let n = c.in_default.in_default-own.rest in
    simp (
      ne_eqb _ _ n.0.0.0.0.1,
      ne_eqb _ _ n.0.0.0.1,
      ne_eqb _ _ n.0.0.1,
      ne_eqb _ _ n.0.1,
      ne_eqb _ _ n.1,
    )
