-- `number::hidden` meets its contract.
-- Assumes nothing.
use Rattle.std.proofs.Common.{le-ltb, lt-ltb}
use Rattle.tables.specs.Tail.{hidden_of}
use Rattle.tables.proofs.number.hidden.Goals as goal

pub returns-then-m-lt8 : goal.returns-then-m-lt8
unfolding hidden_of
returns-then-m-lt8 c = rw (lt-ltb c.args.m 8 c.if-m-lt8.true)

pub returns-else-m-lt8 : goal.returns-else-m-lt8
unfolding hidden_of
returns-else-m-lt8 c = rw (le-ltb c.args.m 8 c.if-m-lt8.false)
