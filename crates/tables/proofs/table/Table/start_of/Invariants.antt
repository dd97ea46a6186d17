-- `table::Table::start_of` meets its contract. The invariant: n rows are shorter than k bytes, and their words end at p.
-- Assumes nothing.
use Rattle.std.proofs.Common.{◌≡◌, ◌+◌, ◌-◌, ◌*◌, ◌≤◌}
use Rattle.scan.specs.Scan.{part_of}
use Rattle.tables.specs.Table.{words_at, lengths_from, sum as sum_of}
use Rattle.tables.proofs.table.Table.start_of.Given as goal

abbrev pub invariant-loop-k : goal.invariant-loop-k
invariant-loop-k l = (1 ≤ l.k) × (l.k ≤ l.m) × (l.n ≤ 255 * (l.k - 1)) × (l.p ≤ words_at l.self.at l.self.most + 6120 * (l.k - 1)) × (l.n ≡ sum_of (part_of l.self.b.now (l.self.at + 1) (l.self.at + l.k)))
    × (l.p ≡ words_at l.self.at l.self.most + sum_of (lengths_from 1 (part_of l.self.b.now (l.self.at + 1) (l.self.at + l.k))))
