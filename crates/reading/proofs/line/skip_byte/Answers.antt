-- `line::skip_byte` meets its contract.
-- Assumes nothing.
use borrow.Author.Tests.{eq-eqb, ne_eqb}
use Rattle.reading.specs.Line.{skip_byte}
use Rattle.reading.proofs.line.skip_byte.Goals as goal

pub returns-then-byte_at-b : goal.returns-then-byte_at-b
unfolding skip_byte
returns-then-byte_at-b c = rw (← c.byte_at.ensures, eq-eqb _ _ c.if-byte_at-b.true)

pub returns : goal.returns
unfolding skip_byte
returns c = rw (← c.byte_at.ensures, ne_eqb _ _ c.if-byte_at-b.false)
