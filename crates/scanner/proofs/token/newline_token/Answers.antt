-- `token::newline_token` meets its contract.
-- Assumes nothing.
use borrow.Author.Tests.{eq-eqb, ne_eqb}
use Rattle.scanner.specs.Tokens.{newline_token}
use Rattle.scanner.proofs.token.newline_token.Goals as goal

pub returns-then-at-s : goal.returns-then-at-s
unfolding newline_token
returns-then-at-s c = rw (eq-eqb _ _ c.if-at-s.true)

pub returns : goal.returns
unfolding newline_token
returns c = rw (ne_eqb _ _ c.if-at-s.false)
