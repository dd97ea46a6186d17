-- `order::rises` meets its contract. The invariant: the words up to e ascend, and x is the last bytes of the one that ends there.
-- Assumes nothing.
use Rattle.std.proofs.Common.{◌≡◌, ◌-◌}
use Rattle.tables.specs.OrderLaws.{Risen}
use Rattle.tables.specs.Tail.{hidden_of, tail_of}
use Rattle.tables.proofs.order.rises.Given as goal

abbrev pub invariant-loop-e : goal.invariant-loop-e
invariant-loop-e l = Risen l.b l.q l.m l.c l.e × (l.x ≡ tail_of l.b l.e (hidden_of l.m))

abbrev pub decreases-loop-e : goal.decreases-loop-e
decreases-loop-e l = l.end - l.e
