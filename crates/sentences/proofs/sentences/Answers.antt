-- `sentences::sentences` meets its contract, by computation.
-- Assumes nothing.
use mathlib.Core.Path.{refl}
use Rattle.spellings.specs.Rows.{rows_of, rows_from}
use Rattle.sentences.specs.Sentences.{sentences, rows_for, sentence_of}
use Rattle.sentences.proofs.sentences.Goals as goal

pub returns : goal.returns
unfolding sentences rows_for sentence_of rows_of rows_from
returns c = refl
