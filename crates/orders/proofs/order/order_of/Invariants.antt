-- `orders::order::order_of` meets its contract.
-- Assumes nothing.
use Rattle.std.proofs.Common.{◌≡◌}
use Rattle.orders.specs.Picking.{picked_from, unpicked}
use Rattle.orders.proofs.order.order_of.Given as goal

abbrev pub invariant-loop-j : goal.invariant-loop-j
invariant-loop-j l = picked_from l.count 0 (unpicked l.n) ≡ picked_from l.count l.j l.p
