-- `alone::range` meets its contract.
-- Assumes nothing.
use mathlib.Core.Path.{◌∙◌, sym, ap}
use Rattle.std.proofs.lemmas.Result.{err_from_is_err_and}
use Rattle.reading.specs.Alone.{Ranged, range_told, range_answer, range_alone}
use Rattle.reading.specs.Checks.{check_for_good, check_for_bad}
use Rattle.reading.proofs.alone.range.Goals as goal

pub returns : goal.returns
unfolding range_alone
returns c = let s = c.args.text.now in
    let good = check_for_good 0 s 0 (sym c.check_for.ensures ∙ c.in_ok-check_for.was) Ranged.refused _ in
    c.range_reply.ensures ∙ ap range_answer c.parse_whole_range.ensures ∙ sym good

pub returns-in_err-check_for : goal.returns-in_err-check_for
unfolding range_told range_alone
returns-in_err-check_for c = let s = c.args.text.now in
    let p = err_from_is_err_and c.from_residual.result c.from_residual.ensures.1 in
    rw (p.1, p.2) (sym (check_for_bad 0 s 0 _ (sym c.check_for.ensures ∙ c.in_err-check_for.was) Ranged.refused _))
