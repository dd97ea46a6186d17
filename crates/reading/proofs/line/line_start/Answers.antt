-- `line::line_start` meets its contract.
-- Assumes nothing.
use mathlib.Core.Path.{◌∙◌, sym, ap}
use Rattle.scan.specs.Bytes.{is_word}
use Rattle.reading.specs.Line.{start_of}
use Rattle.reading.specs.LineLaws.{start_word}
use Rattle.reading.proofs.line.line_start.Goals as goal

pub returns-then-has : goal.returns-then-has
returns-then-has c = sym (start_word _ (ap is_word (sym c.byte_at.ensures) ∙ sym c.has.ensures ∙ c.if-has.true))

pub returns : goal.returns
unfolding start_of
returns c = rw (c.skip_spaces-2.ensures, c.run_end-i.ensures, c.skip_spaces.ensures)
