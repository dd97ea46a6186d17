-- `token::lead_step` meets its contract.
-- Assumes nothing.
use Rattle.scanner.specs.Tokens.{token_at, step_at}
use Rattle.scanner.proofs.token.lead_step.Goals as goal

pub returns : goal.returns
unfolding step_at token_at
returns c = rw (c.position_at-p.ensures, c.line_token-t.ensures, c.lead_of-lead.ensures)
