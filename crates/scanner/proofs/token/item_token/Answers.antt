-- `token::item_token` meets its contract.
-- Assumes nothing.
use mathlib.Core.Path.{sym, ◌∙◌}
use borrow.Author.Tests.{eq-eqb, ne_eqb}
use Rattle.scanner.specs.Tokens.{item_token}
use Rattle.scanner.proofs.token.item_token.Goals as goal

pub returns-then-not-parted : goal.returns-then-not-parted
unfolding item_token
returns-then-not-parted c = rw (c.unlisted_token-then-not-parted.ensures, c.in-Some.is, sym c.parted.ensures ∙ c.if-not-parted.true)

pub returns-then-byte_at-eq34 : goal.returns-then-byte_at-eq34
unfolding item_token
returns-then-byte_at-eq34 c = rw (
  c.in-Some.is,
  sym c.parted.ensures ∙ c.if-not-parted.false,
  ← c.byte_at.ensures,
  eq-eqb _ _ c.if-byte_at-eq34.true,
)

pub returns : goal.returns
unfolding item_token
returns c = rw (
  c.in-Some.is,
  sym c.parted.ensures ∙ c.if-not-parted.false,
  ← c.byte_at.ensures,
  ne_eqb _ _ c.if-byte_at-eq34.false,
)
