-- `answer::Answer::put_bytes` meets its contract.
-- Assumes nothing.
use Rattle.std.proofs.Common.{◌∙◌, sym, ap}
use Rattle.std.proofs.lemmas.List.{take_more}
use Rattle.vectors.specs.Answer.{with}
use Rattle.vectors.specs.AnswerLaws.{with_none, with_after}
use Rattle.vectors.proofs.answer.Answer.put_bytes.Goals as goal

pub loop-i-init : goal.loop-i-init
loop-i-init c = sym (with_none c.args.self.now)

pub loop-i-preserved : goal.loop-i-preserved
loop-i-preserved c =
    with_after _ _ _ c.loop-i.invariant c.put_byte.ensures ∙ ap (with c.args.self.now) (sym (take_more c.args.s.now c.loop-i.i 0 c.loop-i-test.true))
