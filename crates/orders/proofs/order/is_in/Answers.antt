-- `orders::order::is_in` meets its contract.
-- Assumes nothing.
use Rattle.orders.specs.Picking.{is_in}
use Rattle.orders.proofs.order.is_in.Goals as goal

pub returns : goal.returns
unfolding is_in
returns c = rw c.weight.ensures
