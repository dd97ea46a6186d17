-- `text::is_prefixed` meets its contract.
-- Assumes nothing.
use mathlib.Core.Path.{sym}
use Rattle.tokens.specs.Through.{is_prefixed}
use Rattle.tokens.proofs.text.is_prefixed.Goals as goal

pub returns : goal.returns
unfolding is_prefixed
returns c = rw (sym c.requires) (rw c.part.ensures at c.names_prefix.ensures)
