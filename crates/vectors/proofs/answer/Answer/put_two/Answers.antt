-- `answer::Answer::put_two` meets its contract.
-- Assumes nothing.
use Rattle.vectors.specs.AnswerLaws.{with_after}
use Rattle.vectors.proofs.answer.Answer.put_two.Goals as goal

pub returns : goal.returns
returns c = with_after _ _ _ c.put_number.ensures c.put_number-2.ensures
