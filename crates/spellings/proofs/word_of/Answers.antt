-- `spellings::word_of` meets its contract.
-- Assumes nothing.
use Rattle.scan.specs.Scan.{part_of}
use Rattle.spellings.specs.SpellingsLaws.{word_none, word_here, word_past}
use Rattle.spellings.specs.RowsLaws.{rows_start, rows_end_lem}
use Rattle.spellings.specs.Rows.{row, rows_at}
use borrow.Author.Rules.{rules}
use Rattle.spellings.proofs.word_of.Goals as goal

pub loop-i-init : goal.loop-i-init
loop-i-init c = cc (rows_start c.args.rows.now)

pub returns-then-r-n : goal.returns-then-r-n
returns-then-r-n c = let a = c.args in
    let r = c.row_at-r.result in
    cc (word_here (row (part_of a.rows.now r.start r.stop) r.command) (rows_at a.rows.now r.stop) a.n (search rules))

pub loop-i-preserved : goal.loop-i-preserved
loop-i-preserved c = let a = c.args in
    let r = c.row_at-r.result in
    cc (word_past (row (part_of a.rows.now r.start r.stop) r.command) (rows_at a.rows.now r.stop) a.n (search rules))

pub returns : goal.returns
returns c = let a = c.args in cc (rows_end_lem a.rows.now c.loop-i.i (search rules), word_none a.n)
