-- `orders::order::free` meets its contract.
-- Assumes nothing.
use Rattle.std.proofs.Common.{◌≡◌}
use Rattle.orders.specs.Picking.{free_from}
use Rattle.orders.proofs.order.free.Given as goal

abbrev pub invariant-loop-k : goal.invariant-loop-k
invariant-loop-k l = free_from l.used 0 l.d ≡ free_from l.used l.k l.left
