-- `text::texts_end` meets its contract.
-- Assumes nothing.
use mathlib.Core.Path.{sym, ◌∙◌}
use Rattle.tokens.specs.Through.{texts_end}
use Rattle.tokens.proofs.text.texts_end.Goals as goal

pub returns-then-is_prefixed : goal.returns-then-is_prefixed
unfolding texts_end
returns-then-is_prefixed c = rw (sym c.is_prefixed.ensures ∙ c.if-is_prefixed.true) (rw c.requires at c.run_end.ensures)

pub returns : goal.returns
unfolding texts_end
returns c = rw (sym c.is_prefixed.ensures ∙ c.if-is_prefixed.false)
