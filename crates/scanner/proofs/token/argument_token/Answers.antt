-- `token::argument_token` meets its contract.
-- Assumes nothing.
use mathlib.Core.Path.{sym, ◌∙◌}
use borrow.Author.Tests.{eq-eqb, ne_eqb, le-leb, lt-leb}
use Rattle.scanner.specs.Tokens.{argument_token}
use Rattle.scanner.proofs.token.argument_token.Goals as goal

pub returns-then-s-at : goal.returns-then-s-at
unfolding argument_token
returns-then-s-at c = rw (c.end_token.ensures, le-leb _ _ c.if-s-at.true)

pub returns-then-has : goal.returns-then-has
unfolding argument_token
returns-then-has c = rw (
  lt-leb _ _ c.if-s-at.false,
  ← c.byte_at-b.ensures,
  sym c.has.ensures ∙ c.if-has.true,
  ← c.skip_spaces.ensures,
)

pub returns-then-b-eq10 : goal.returns-then-b-eq10
unfolding argument_token
returns-then-b-eq10 c = rw (
  c.newline_token.ensures,
  lt-leb _ _ c.if-s-at.false,
  ← c.byte_at-b.ensures,
  sym c.has.ensures ∙ c.if-has.false,
  eq-eqb _ _ c.if-b-eq10.true,
)

pub returns : goal.returns
unfolding argument_token
returns c = rw (
  c.item_token.ensures,
  ← c.item_stop.ensures,
  lt-leb _ _ c.if-s-at.false,
  ← c.byte_at-b.ensures,
  sym c.has.ensures ∙ c.if-has.false,
  ne_eqb _ _ c.if-b-eq10.false,
)
