-- `table::Table::sum` meets its contract. The invariant: n is the sum of the counts below m.
-- Assumes nothing.
use Rattle.std.proofs.Common.{sym, arith}
use Rattle.tables.specs.FrameLaws.{sum_next, sum_first}
use Rattle.tables.proofs.table.Table.sum.Goals as goal

pub loop-m-init : goal.loop-m-init
loop-m-init c = (omega arith, omega arith, omega arith, sym (sum_first c.args.self.now.b.now c.args.self.now.at))

pub loop-m-preserved : goal.loop-m-preserved
loop-m-preserved c = let a = c.args.self.now in
    let l = c.loop-m in
    (omega arith, omega arith, omega (arith, c.count_of-n.ensures.bound), omega (arith, l.invariant.3, c.count_of-n.ensures.value, sum_next a.b.now a.at l.m l.invariant.0 (omega arith)))
