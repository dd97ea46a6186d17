-- `spellings::row_at` meets its contract.
-- Assumes nothing.
use Rattle.spellings.specs.RowsLaws.{rows_step}
use borrow.Author.Rules.{rules}
use Rattle.spellings.proofs.row_at.Goals as goal

pub returns : goal.returns
returns c = let a = c.args in record { row = cc (rows_step a.rows.now a.i (search rules)); past = search rules }
