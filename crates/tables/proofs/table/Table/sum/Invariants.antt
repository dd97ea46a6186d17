-- `table::Table::sum` meets its contract. The invariant: n is the sum of the counts below m.
-- Assumes nothing.
use Rattle.std.proofs.Common.{◌≡◌, ◌+◌, ◌-◌, ◌*◌, ◌≤◌}
use Rattle.limits.specs.Limits.{word_limit}
use Rattle.scan.specs.Scan.{part_of}
use Rattle.tables.specs.Table.{sum as sum_of}
use Rattle.tables.proofs.table.Table.sum.Given as goal

abbrev pub invariant-loop-m : goal.invariant-loop-m
invariant-loop-m l = (1 ≤ l.m) × (l.m ≤ 1 + word_limit) × (l.n ≤ 255 * (l.m - 1)) × (l.n ≡ sum_of (part_of l.self.b.now (l.self.at + 1) (l.self.at + l.m)))
