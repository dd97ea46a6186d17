-- `token::argument_step` meets its contract.
-- Assumes nothing.
use Rattle.scanner.specs.Tokens.{step_at}
use Rattle.scanner.proofs.token.argument_step.Goals as goal

pub returns : goal.returns
unfolding step_at
returns c = rw c.argument_token-t.ensures
