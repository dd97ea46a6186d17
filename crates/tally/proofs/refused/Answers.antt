-- `tally::refused` meets its contract.
-- Assumes nothing.
use Rattle.std.proofs.Common.{refl, ◌∙◌, add-one}
use Rattle.tally.specs.Tally.{sum_up_to}
use Rattle.tally.proofs.refused.Goals as goal

pub loop-i-init : goal.loop-i-init
unfolding sum_up_to
loop-i-init c = refl

pub loop-i-preserved : goal.loop-i-preserved
unfolding sum_up_to
loop-i-preserved c = c.added-n.ensures ∙ rw (add-one, c.loop-i.invariant)
