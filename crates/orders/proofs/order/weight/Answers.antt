-- `orders::order::weight` meets its contract.
-- Assumes nothing.
use Rattle.std.proofs.Common.{rules}
use Rattle.orders.specs.Picking.{weight_of}
use Rattle.orders.specs.PickingLaws.{weight_last}
use Rattle.orders.proofs.order.weight.Goals as goal

pub returns-in-0 : goal.returns-in-0
unfolding weight_of
returns-in-0 c = rw c.in-0.is

pub returns-in-1 : goal.returns-in-1
unfolding weight_of
returns-in-1 c = rw c.in-1.is

pub returns-in-2 : goal.returns-in-2
unfolding weight_of
returns-in-2 c = rw c.in-2.is

pub returns-in-3 : goal.returns-in-3
unfolding weight_of
returns-in-3 c = rw c.in-3.is

pub returns-in_default : goal.returns-in_default
returns-in_default c = search (rules, weight_last)
