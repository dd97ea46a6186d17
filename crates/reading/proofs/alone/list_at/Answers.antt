-- `alone::list_at` meets its contract.
-- Assumes nothing.
use mathlib.Core.Path.{◌∙◌, sym}
use native.Mathlib.Omega.{arith}
use Rattle.std.proofs.lemmas.Result.{err_from_is_err_and}
use Rattle.reading.specs.Alone.{Answer, line_room, reply_told}
use Rattle.reading.specs.Checks.{check_of, check_bad, check_good, check_room, item_alone, item_bad, item_keyless, item_found}
use Rattle.reading.proofs.alone.list_at.Goals as goal

pub returns-in_err-check_line-clause-answer : goal.returns-in_err-check_line-clause-answer
unfolding check_of line_room reply_told item_alone
returns-in_err-check_line-clause-answer c =
    let p = err_from_is_err_and c.from_residual.result c.from_residual.ensures.1 in
    rw (p.1, p.2) (sym (check_bad _ _ _ (sym c.check_line.ensures ∙ c.in_err-check_line.was) Answer.refused _))

pub returns-in_err-seen-clause-answer : goal.returns-in_err-seen-clause-answer
unfolding check_of line_room reply_told item_alone
returns-in_err-seen-clause-answer c =
    let p = err_from_is_err_and c.from_residual-in_err-seen.result c.from_residual-in_err-seen.ensures.1 in
    let good = check_good _ _ (sym c.check_line.ensures ∙ c.in_ok-check_line.was) Answer.refused _ in
    rw (p.1, p.2) (sym (good ∙ item_bad _ _ _ c.parse_list.ensures c.ok_or.ensures.value _ c.in_err-seen.was))

pub returns-then-seen-clause-answer : goal.returns-then-seen-clause-answer
unfolding check_of line_room reply_told item_alone
returns-then-seen-clause-answer c =
    let good = check_good _ _ (sym c.check_line.ensures ∙ c.in_ok-check_line.was) Answer.refused _ in
    sym (good ∙ item_keyless _ _ _ c.parse_list.ensures c.ok_or.ensures.value _ c.in_ok-seen.was c.if-seen.true)

pub returns : goal.returns
unfolding check_of line_room reply_told item_alone
returns c =
    let checked = sym c.check_line.ensures ∙ c.in_ok-check_line.was in
    record {
      answer = rw c.found.ensures
          (sym (check_good _ _ checked Answer.refused _ ∙ item_found _ _ _ c.parse_list.ensures c.ok_or.ensures.value _ c.in_ok-seen.was c.if-seen.false));
      room = omega (arith, check_room _ _ checked);
    }
