-- `token::lead_left` meets its contract.
-- Assumes nothing.
use mathlib.Core.Path.{refl}
use Rattle.scanner.specs.Tokens.{lead_left}
use Rattle.scanner.proofs.token.lead_left.Goals as goal

pub returns : goal.returns
unfolding lead_left
returns c = refl
