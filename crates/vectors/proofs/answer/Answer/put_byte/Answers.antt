-- `answer::Answer::put_byte` meets its contract.
-- Assumes nothing.
use Rattle.std.proofs.Common.{◌∙◌, ap, arith, length-take, ◌∷◌, []}
use Rattle.vectors.specs.Answer.{with}
use Rattle.vectors.specs.AnswerLaws.{with_byte, with_full}
use Rattle.vectors.proofs.answer.Answer.put_byte.Goals as goal

pub returns-then-self-lt-ANSWER : goal.returns-then-self-lt-ANSWER
returns-then-self-lt-ANSWER c =
    with_byte c.self.inside.bytes c.self.inside.end c.args.b c.self.told c.if-self-lt-ANSWER.true
    ∙ ap (λ bytes. with bytes (c.args.b ∷ [])) c.self.view_is

pub returns-else-self-lt-ANSWER : goal.returns-else-self-lt-ANSWER
returns-else-self-lt-ANSWER c = with_full c.args.self.now c.args.b
    (rw (← c.self.view_is) (omega (arith, length-take c.self.inside.end c.self.inside.bytes, c.self.told, c.self.invariant, c.if-self-lt-ANSWER.false)))
