-- `orders::order::free` meets its contract.
-- Assumes nothing.
use Rattle.std.proofs.Common.{sym, ap, ◌∙◌, arith, rules}
use Rattle.orders.specs.Picking.{free_from}
use Rattle.orders.specs.PickingLaws.{free_taken, free_here, free_past, free_end}
use Rattle.orders.proofs.order.free.Goals as goal
use Rattle.orders.proofs.order.free.Goals.{then-not-is_in+else-left-eq0, else-not-is_in}

pub returns-then-left-eq0 : goal.returns-then-left-eq0
returns-then-left-eq0 c = let l = c.loop-k in
    sym (l.invariant ∙ free_here _ _ _ (search rules) (sym c.is_in.ensures ∙ c.if-not-is_in.true) c.if-left-eq0.true)

pub loop-k-preserved : goal.loop-k-preserved
loop-k-preserved c = let l = c.loop-k in
    let s = c.is_in.ensures in
    l.invariant ∙ elim c.if-not-is_in.branch [
      | then-not-is_in+else-left-eq0 w ↦
          free_past _ _ _ (search rules) (sym s ∙ w.if-not-is_in.true) w.if-left-eq0.false ∙ ap (free_from _ _) (sym w.left-is)
      | else-not-is_in w ↦ free_taken _ _ _ (search rules) (sym s ∙ w.if-not-is_in.false) ∙ ap (free_from _ _) (sym w.left-is)
    ]

pub returns : goal.returns
returns c = let l = c.loop-k in
    sym (l.invariant ∙ free_end _ _ _ (omega arith))
