-- `orders::order::picked` meets its contract.
-- Assumes nothing.
use Rattle.std.proofs.Common.{◌≡◌, length, sym, ◌∙◌, arith, rules}
use lib.Seq.{set_out}
use Rattle.orders.specs.PickingLaws.{orders_some, picked_as}
use Rattle.orders.proofs.order.picked.Goals as goal
use Rattle.orders.proofs.order.picked.Goals.{then-j-lt5, else-j-lt5}

pub nonzero_div-p : goal.nonzero_div-p
nonzero_div-p c = rw c.orders_of-f.ensures (orders_some _)

pub nonzero_rem-result : goal.nonzero_rem-result
nonzero_rem-result c = rw c.orders_of-f.ensures (orders_some _)

pub returns : goal.returns
returns c = let a = c.args in
    let l : length a.p.order ≡ 5 = search rules in
    picked_as _ _ _ _ _ _ _
    c.orders_of-f.ensures
    c.free-k.ensures
    c.weight.ensures
    (elim c.if-j-lt5.branch [
      | then-j-lt5 w ↦ w.order-is
      | else-j-lt5 w ↦ w.order-is ∙ sym (set_out a.p.order _ _ (omega (arith, l, w.if-j-lt5.false)))
    ])
