-- `spellings::spellings` meets its contract, by computation.
-- Assumes nothing.
use mathlib.Core.Path.{refl}
use Rattle.words.specs.Words.{shipped, aliases, names, same}
use Rattle.words.specs.Order.{is_before}
use Rattle.spellings.specs.Rows.{rows_of, rows_from}
use Rattle.spellings.specs.Spellings.{in_order, insert_before}
use Rattle.spellings.proofs.spellings.Goals as goal

pub returns : goal.returns
unfolding shipped aliases names rows_of rows_from in_order insert_before is_before same
returns c = refl
