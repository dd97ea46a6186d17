-- `token::position_at` meets its contract.
-- Assumes nothing.
use borrow.Author.Tests.{lt-ltb, le-ltb}
use Rattle.scanner.specs.Tokens.{position_at}
use Rattle.scanner.proofs.token.position_at.Goals as goal

pub returns-then-at-argument : goal.returns-then-at-argument
unfolding position_at
returns-then-at-argument c = rw (lt-ltb _ _ c.if-at-argument.true)

pub returns : goal.returns
unfolding position_at
returns c = rw (le-ltb _ _ c.if-at-argument.false)
