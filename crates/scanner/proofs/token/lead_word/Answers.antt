-- `token::lead_word` meets its contract.
-- Assumes nothing.
use mathlib.Core.Path.{sym, ◌∙◌}
use Rattle.scanner.specs.Tokens.{lead_word}
use Rattle.scanner.proofs.token.lead_word.Goals as goal

pub returns-in_default : goal.returns-in_default
unfolding lead_word
returns-in_default c = rw (c.lead_left.ensures, sym c.parse_cmd_name.ensures ∙ c.in_default.is)

pub returns : goal.returns
unfolding lead_word
returns c = rw (
  sym c.parse_cmd_name.ensures ∙ c.in-Some.is,
  ← c.skip_byte-f.ensures,
  ← c.skip_spaces-g.ensures,
)
