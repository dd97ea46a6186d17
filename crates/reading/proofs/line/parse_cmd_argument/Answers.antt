-- `line::parse_cmd_argument` meets its contract.
-- Assumes nothing.
use borrow.Author.Tests.{eq-eqb, ne_eqb}
use Rattle.reading.specs.Line.{rest_at}
use Rattle.reading.proofs.line.parse_cmd_argument.Goals as goal

pub returns-then-skip_byte-s : goal.returns-then-skip_byte-s
unfolding rest_at
returns-then-skip_byte-s c = rw (
  c.range_again.ensures,
  ← c.skip_byte-b.ensures,
  ← c.skip_spaces-a.ensures,
  ← c.text_from-e.ensures,
  ← c.skip_byte.ensures,
  eq-eqb _ _ c.if-skip_byte-s.true,
)

pub returns : goal.returns
unfolding rest_at
returns c = rw (
  ← c.skip_byte-b.ensures,
  ← c.skip_spaces-a.ensures,
  ← c.text_from-e.ensures,
  ← c.skip_byte.ensures,
  ne_eqb _ _ c.if-skip_byte-s.false,
)
