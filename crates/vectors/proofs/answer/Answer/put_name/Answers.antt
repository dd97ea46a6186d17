-- `answer::Answer::put_name` meets its contract.
-- Assumes nothing.
use Rattle.store.specs.Sevens.{named}
use Rattle.vectors.specs.AnswerLaws.{with_after}
use Rattle.vectors.proofs.answer.Answer.put_name.Goals as goal

pub returns : goal.returns
unfolding named
returns c = with_after _ _ _ c.put_number.ensures c.put_bytes.ensures
