-- `orders::order::orders_of` meets its contract.
-- Assumes nothing.
use Rattle.std.proofs.Common.{rules}
use Rattle.orders.specs.Order.{factorial, orders_of}
use Rattle.orders.specs.PickingLaws.{orders_else}
use Rattle.orders.proofs.order.orders_of.Goals as goal

pub returns-in-2 : goal.returns-in-2
unfolding orders_of factorial
returns-in-2 c = rw c.in-2.is

pub returns-in-3 : goal.returns-in-3
unfolding orders_of factorial
returns-in-3 c = rw c.in-3.is

pub returns-in-4 : goal.returns-in-4
unfolding orders_of factorial
returns-in-4 c = rw c.in-4.is

pub returns-in-5 : goal.returns-in-5
unfolding orders_of factorial
returns-in-5 c = rw c.in-5.is

pub returns-in_default : goal.returns-in_default
returns-in_default c = search (rules, orders_else)
