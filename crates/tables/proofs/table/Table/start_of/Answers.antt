-- `table::Table::start_of` meets its contract. The invariant: n rows are shorter than k bytes, and their words end at p.
-- Assumes nothing.
use Rattle.std.proofs.Common.{◌≤◌, mul-le-mul_right, arith}
use Rattle.tables.specs.FrameLaws.{sum_next, sum_first, bytes_next, bytes_first}
use Rattle.tables.proofs.table.Table.start_of.Goals as goal

pub loop-k-init : goal.loop-k-init
loop-k-init c = let b = c.args.self.now.b.now in
    let at = c.args.self.now.at in
    (omega arith, omega arith, omega arith, omega arith, omega (arith, sum_first b at), omega (arith, bytes_first b at))

pub loop-k-preserved : goal.loop-k-preserved
loop-k-preserved c = let a = c.args.self.now in
    let l = c.loop-k in
    let h = c.requires in
    let g : c.count_of-c.result ≤ 255 = omega (arith, c.count_of-c.ensures.bound) in
    let s = sum_next a.b.now a.at l.k l.invariant.0 (omega (arith, h)) in
    let t = bytes_next a.b.now a.at l.k l.invariant.0 (omega (arith, h)) in
    (omega arith, omega arith, omega (arith, g), omega (arith, mul-le-mul_right l.k g), omega (arith, l.invariant, s, c.count_of-c.ensures.value), rw c.count_of-c.ensures.value (omega (arith, l.invariant, t)))
