-- `table::Table::ordered` meets its contract. The invariant: the words up to q ascend, are shorter than m, and so many are left.
-- Assumes nothing.
use Rattle.std.proofs.Common.{◌-◌}
use Rattle.tables.specs.OrderLaws.{Ordered}
use Rattle.tables.proofs.table.Table.ordered.Given as goal

abbrev pub invariant-loop-left : goal.invariant-loop-left
invariant-loop-left l = Ordered l.self.b.now l.self.at l.self.most l.q l.m l.left

abbrev pub decreases-loop-left : goal.decreases-loop-left
decreases-loop-left l = 25 - l.m
