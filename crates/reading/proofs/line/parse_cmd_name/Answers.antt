-- `line::parse_cmd_name` meets its contract.
-- Assumes nothing.
use borrow.Author.Tests.{eq-eqb, ne_eqb, le-leb, lt-leb}
use Rattle.reading.specs.Line.{word_at}
use Rattle.reading.proofs.line.parse_cmd_name.Goals as goal

pub returns-then-b-eq33 : goal.returns-then-b-eq33
unfolding word_at
returns-then-b-eq33 c = rw (← c.byte_at-b.ensures, eq-eqb _ _ c.if-b-eq33.true)

pub returns-then-s-at : goal.returns-then-s-at
unfolding word_at
returns-then-s-at c = rw (
  ← c.byte_at-b.ensures,
  ne_eqb _ _ c.if-b-eq33.false,
  ← c.word_end-e.ensures,
  eq-eqb _ _ c.if-e-at.true,
  le-leb _ _ c.if-s-at.true,
)

pub returns-then-b-eq10 : goal.returns-then-b-eq10
unfolding word_at
returns-then-b-eq10 c = rw (
  ← c.byte_at-b.ensures,
  ne_eqb _ _ c.if-b-eq33.false,
  ← c.word_end-e.ensures,
  eq-eqb _ _ c.if-e-at.true,
  lt-leb _ _ c.if-s-at.false,
  eq-eqb _ _ c.if-b-eq10.true,
)

pub returns-then-e-at : goal.returns-then-e-at
unfolding word_at
returns-then-e-at c = rw (
  ← c.byte_at-b.ensures,
  ne_eqb _ _ c.if-b-eq33.false,
  ← c.word_end-e.ensures,
  eq-eqb _ _ c.if-e-at.true,
  lt-leb _ _ c.if-s-at.false,
  ne_eqb _ _ c.if-b-eq10.false,
)

pub returns : goal.returns
unfolding word_at
returns c = rw (
  ← c.byte_at-b.ensures,
  ne_eqb _ _ c.if-b-eq33.false,
  ← c.word_end-e.ensures,
  ne_eqb _ _ c.if-e-at.false,
)
