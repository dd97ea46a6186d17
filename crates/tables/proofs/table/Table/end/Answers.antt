-- `table::Table::end` meets its contract: the words of the greatest length are the last.
-- Assumes nothing.
use Rattle.std.proofs.Common.{arith}
use Rattle.limits.specs.Limits.{word_limit}
use Rattle.tables.specs.FrameLaws.{framed_told, bytes_next, lengths_sum}
use Rattle.tables.proofs.table.Table.end.Goals as goal

pub overflow_add-result : goal.overflow_add-result
overflow_add-result c = let a = c.args.self.now in
    let f = framed_told a.at a.most a.b.now c.requires.b_value in
    let n = bytes_next a.b.now a.at word_limit (omega arith) (omega (arith, f.size)) in
    omega (arith, f.size, f.few, lengths_sum a.at a.most a.b.now f c.requires.at_nonzero, n, c.count_of.ensures.value, c.start_of-s.ensures.place)

pub returns : goal.returns
returns c = let a = c.args.self.now in
    let f = framed_told a.at a.most a.b.now c.requires.b_value in
    let n = bytes_next a.b.now a.at word_limit (omega arith) (omega (arith, f.size)) in
    omega (arith, n, c.count_of.ensures.value, c.start_of-s.ensures.place)
