-- `token::up_to` meets its contract.
-- Assumes nothing.
use borrow.Author.Tests.{lt-ltb, le-ltb}
use Rattle.scanner.specs.Tokens.{up_to}
use Rattle.scanner.proofs.token.up_to.Goals as goal

pub returns-then-at-stop : goal.returns-then-at-stop
unfolding up_to
returns-then-at-stop c = rw (lt-ltb _ _ c.if-at-stop.true)

pub returns : goal.returns
unfolding up_to
returns c = rw (le-ltb _ _ c.if-at-stop.false)
