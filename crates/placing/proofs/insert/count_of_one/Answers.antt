-- `insert::count_of_one` meets its contract.
-- Assumes nothing.
use native.Mathlib.Omega.{arith}
use borrow.Author.Tests.{eq-eqb, ne_eqb}
use Rattle.tables.specs.Table.{count_of}
use Rattle.placing.proofs.insert.count_of_one.Goals as goal

pub returns-then-m-k : goal.returns-then-m-k
unfolding count_of
returns-then-m-k c = rw (eq-eqb c.args.m c.args.k c.if-m-k.true) (omega arith)

pub returns-else-m-k : goal.returns-else-m-k
unfolding count_of
returns-else-m-k c = rw (ne_eqb c.args.m c.args.k c.if-m-k.false) (omega arith)
