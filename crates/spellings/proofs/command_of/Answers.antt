-- `spellings::command_of` meets its contract. The invariant: the rows from `i` on lead the word where all rows do.
-- Assumes nothing.
use mathlib.Core.Path.{◌≡◌, sym, ◌∙◌, ap}
use mathlib.Core.Bool.{true, false}
use Rattle.scan.specs.Scan.{part_of}
use Rattle.words.specs.Words.{same, lookup_in}
use Rattle.words.specs.LookupLaws.{lookup_here, lookup_past}
use Rattle.spellings.specs.Rows.{row, rows_at}
use Rattle.spellings.specs.RowsLaws.{rows_start, rows_end_lem}
use Rattle.spellings.specs.SpellingsLaws.{lookup_none}
use Rattle.spellings.proofs.command_of.Goals as goal

pub loop-i-init : goal.loop-i-init
loop-i-init c = cc (rows_start c.args.rows.now)

pub returns-then-is_same : goal.returns-then-is_same
returns-then-is_same c = let a = c.args in
    let r = c.row_at-r.result in
    let w = part_of a.rows.now r.start r.stop in
    let e : same a.w.now w ≡ true = sym (rw c.part.ensures at c.is_same.ensures) ∙ c.if-is_same.true in
    sym (sym c.loop-i.invariant ∙ ap (λ rs. lookup_in rs a.w.now) c.row_at-r.ensures.row ∙ lookup_here (row w r.command) (rows_at a.rows.now r.stop) a.w.now e)

pub loop-i-preserved : goal.loop-i-preserved
loop-i-preserved c = let a = c.args in
    let r = c.row_at-r.result in
    let w = part_of a.rows.now r.start r.stop in
    let e : same a.w.now w ≡ false = sym (rw c.part.ensures at c.is_same.ensures) ∙ c.if-is_same.false in
    sym (ap (λ rs. lookup_in rs a.w.now) c.row_at-r.ensures.row ∙ lookup_past (row w r.command) (rows_at a.rows.now r.stop) a.w.now e) ∙ c.loop-i.invariant

pub returns : goal.returns
returns c = let a = c.args in
    sym (sym c.loop-i.invariant ∙ ap (λ rs. lookup_in rs a.w.now) (rows_end_lem a.rows.now c.loop-i.i c.loop-i-test.false) ∙ lookup_none a.w.now)
