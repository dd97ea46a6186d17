-- `orders::order::order_of` meets its contract.
-- Assumes nothing.
use Rattle.std.proofs.Common.{◌≡◌, take, sym, refl, ap, ◌∙◌, rules}
use Rattle.orders.specs.Picking.{picked_from, unpicked}
use Rattle.orders.specs.PickingLaws.{picked_on, picked_end, picked_order}
use Rattle.orders.specs.declared.order.Picking.{Picking}
use Rattle.orders.proofs.order.order_of.Goals as goal

pub loop-j-preserved : goal.loop-j-preserved
loop-j-preserved c = let l = c.loop-j in
    l.invariant ∙ (picked_on _ _ _ l.p (search rules) refl ∙ ap (picked_from _ _) (sym c.picked-p.ensures))

pub returns : goal.returns
returns c = let l = c.loop-j in
    let a = c.args in
    let e : l.p ≡ picked_from a.count 0 (unpicked a.n) = sym (l.invariant ∙ picked_end _ _ l.p (search rules)) in
    λ h k. ap (λ (p : Picking). take a.count p.order) e ∙ picked_order a.count a.n h k
