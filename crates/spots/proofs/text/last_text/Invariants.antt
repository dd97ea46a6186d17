-- `spots::text::last_text` meets its contract. The invariant: the walk over the readings that are not left.
-- Assumes nothing.
use Rattle.spots.specs.TextLaws.{Walk}
use Rattle.spots.proofs.text.last_text.Given as goal

abbrev pub invariant-loop-left : goal.invariant-loop-left
invariant-loop-left l = Walk l.line l.readings l.left l.from l.to

abbrev pub decreases-loop-left : goal.decreases-loop-left
decreases-loop-left l = l.left
