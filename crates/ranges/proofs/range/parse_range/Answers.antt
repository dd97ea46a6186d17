-- `range::parse_range` meets its contract.
-- Assumes nothing.
use mathlib.Core.Path.{◌∙◌, sym, ap}
use Rattle.scan.specs.Bytes.{is_word}
use Rattle.ranges.specs.WordLaws.{range_word}
use Rattle.ranges.proofs.range.parse_range.Goals as goal

pub returns-then-has : goal.returns-then-has
returns-then-has c = sym (range_word _ _ (ap is_word (sym c.byte_at.ensures) ∙ sym c.has.ensures ∙ c.if-has.true))
