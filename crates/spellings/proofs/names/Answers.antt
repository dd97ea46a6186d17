-- `spellings::names` meets its contract, by computation.
-- Assumes nothing.
use mathlib.Core.Path.{refl}
use Rattle.words.specs.Words.{names}
use Rattle.spellings.specs.Rows.{rows_of, rows_from}
use Rattle.spellings.proofs.names.Goals as goal

pub returns : goal.returns
unfolding names rows_of rows_from
returns c = refl
