-- `token::lead_of` meets its contract.
-- Assumes nothing.
use mathlib.Core.Path.{sym, ◌∙◌}
use Rattle.scanner.specs.Tokens.{lead_of, lead_range}
use Rattle.scanner.proofs.token.lead_of.Goals as goal

pub returns-in-Ok-None : goal.returns-in-Ok-None
unfolding lead_of lead_range
returns-in-Ok-None c = rw (
  c.lead_word.ensures,
  ← c.skip_spaces-a.ensures,
  ← c.run_end-b.ensures,
  ← c.skip_spaces-c.ensures,
  sym c.parse_any_range.ensures ∙ c.in-Ok-None.is,
  c.in-Ok-None.field-0-is,
)

pub returns-in-Ok-Some : goal.returns-in-Ok-Some
unfolding lead_of lead_range
returns-in-Ok-Some c = rw (
  c.lead_word-in-Ok-Some.ensures,
  ← c.skip_spaces-a.ensures,
  ← c.run_end-b.ensures,
  ← c.skip_spaces-c.ensures,
  sym c.parse_any_range.ensures ∙ c.in-Ok-Some.is,
  c.in-Ok-Some.field-0-is,
)

pub returns-in-Err : goal.returns-in-Err
unfolding lead_of lead_range
returns-in-Err c = rw (
  c.lead_left.ensures,
  ← c.skip_spaces-a.ensures,
  ← c.run_end-b.ensures,
  ← c.skip_spaces-c.ensures,
  sym c.parse_any_range.ensures ∙ c.in-Err.is,
)
