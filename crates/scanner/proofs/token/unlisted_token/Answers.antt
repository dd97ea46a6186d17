-- `token::unlisted_token` meets its contract.
-- Assumes nothing.
use Rattle.scanner.specs.Tokens.{item_token}
use Rattle.scanner.proofs.token.unlisted_token.Goals as goal

pub returns : goal.returns
unfolding item_token
returns c = rw c.run_end.ensures
