-- `line::parse_cmd_descr` meets its contract.
-- Assumes nothing.
use mathlib.Core.Path.{◌∙◌, sym, ap}
use Rattle.std.proofs.lemmas.Result.{err_from_is_err_and}
use Rattle.reading.specs.Line.{reading_of}
use Rattle.reading.specs.WordPlaces.{after_place}
use Rattle.reading.specs.WordPlacesLaws.{after_place_lem}
use Rattle.reading.proofs.line.parse_cmd_descr.Goals as goal

pub returns : goal.returns
unfolding reading_of
returns c = let e = sym c.word_place.ensures ∙ c.in_ok-j.was in
    rw (← c.line_start-i.ensures, ← c.parse_range-range.ensures)
    (c.parse_cmd_after_range.ensures ∙ (ap (after_place _ _) (sym e) ∙ after_place_lem _ _ _))

pub returns-in_err-j : goal.returns-in_err-j
unfolding reading_of
returns-in_err-j c = let e = sym c.word_place.ensures ∙ c.in_err-j.was in
    let p = err_from_is_err_and c.from_residual.result c.from_residual.ensures.1 in
    rw (p.1, p.2, ← c.line_start-i.ensures, ← c.parse_range-range.ensures)
    (ap (after_place _ _) (sym e) ∙ after_place_lem _ _ _)
