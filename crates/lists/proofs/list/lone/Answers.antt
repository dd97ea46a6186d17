-- `list::lone` meets its contract.
-- Assumes nothing.
use Prim.Native.Nat.{◌+◌}
use native.Mathlib.Omega.{arith}
use borrow.Author.Tests.{eq-eqb, ne_eqb}
use Rattle.lists.specs.Lists.{lone}
use Rattle.lists.proofs.list.lone.Goals as goal

pub returns-then-x-eq0 : goal.returns-then-x-eq0
unfolding lone
returns-then-x-eq0 c = rw (ne_eqb c.args.x.end (c.args.x.start + 1) (λ e. omega arith))

pub returns-then-x : goal.returns-then-x
unfolding lone
returns-then-x c = rw (ne_eqb c.args.x.end (c.args.x.start + 1) (λ e. c.if-x.true (omega arith)))

pub returns : goal.returns
unfolding lone
returns c = rw (c.byte_at.ensures, eq-eqb c.args.x.end (c.args.x.start + 1) (omega (arith, c.if-x.false)))
