-- `spots::text::last_text` meets its contract. The invariant: the walk over the readings that are not left.
-- Assumes nothing.
use Rattle.std.proofs.Common.{arith}
use Rattle.spots.specs.TextLaws.{walk_start, walk_on}
use Rattle.spots.proofs.text.last_text.Goals as goal

pub loop-left-init : goal.loop-left-init
loop-left-init c = rw c.skip_spaces-from.ensures (walk_start _ _)

-- a prefix is passed

pub overflow_add-to : goal.overflow_add-to
overflow_add-to c =
    let on = walk_on _ _ _ _ _ c.loop-left.invariant c.loop-left-test.true in
    rw (c.run_end.ensures, c.lead_of-l.ensures, c.part-s.ensures) (omega (arith, on.inside))

pub overflow_add-from : goal.overflow_add-from
overflow_add-from c =
    let on = walk_on _ _ _ _ _ c.loop-left.invariant c.loop-left-test.true in
    rw (c.lead_of-l.ensures, c.part-s.ensures) (omega (arith, on.inside, on.order))

pub loop-left-preserved : goal.loop-left-preserved
loop-left-preserved c =
    let on = walk_on _ _ _ _ _ c.loop-left.invariant c.loop-left-test.true in
    rw (c.run_end.ensures, c.lead_of-l.ensures, c.part-s.ensures) on
