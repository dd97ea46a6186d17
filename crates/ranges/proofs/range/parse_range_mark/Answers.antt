-- `range::parse_range_mark` meets its contract.
-- Assumes nothing.
use mathlib.Core.Path.{sym, ◌∙◌}
use Rattle.ranges.specs.Range.{mark_atom}
use Rattle.ranges.proofs.range.parse_range_mark.Goals as goal

pub returns-then-has : goal.returns-then-has
unfolding mark_atom
returns-then-has c = simp (sym c.has.ensures ∙ c.if-has.true)

pub returns-else-has : goal.returns-else-has
unfolding mark_atom
returns-else-has c = simp (sym c.has.ensures ∙ c.if-has.false)
