-- `answer::Answer::put_number` meets its contract.
-- Assumes nothing.
use Rattle.std.proofs.Common.{◌∙◌, sym, ap, ◌/◌, ◌%◌, ◌+◌, [], ◌∷◌}
use Rattle.store.specs.Sevens.{encode}
use Rattle.store.specs.SevensLaws.{encode_small, encode_more}
use Rattle.vectors.specs.Answer.{with}
use Rattle.vectors.specs.AnswerLaws.{with_then}
use Rattle.vectors.proofs.answer.Answer.put_number.Goals as goal

pub loop-left-preserved : goal.loop-left-preserved
loop-left-preserved c =
    let l = c.loop-left in
    ap (λ bytes. with bytes (encode (l.left / 128))) c.put_byte.ensures
    ∙ with_then l.self ((l.left % 128 + 128) ∷ []) (encode (l.left / 128))
    ∙ ap (with l.self) (sym (encode_more l.left c.loop-left-test.true))
    ∙ l.invariant

pub returns : goal.returns
returns c =
    let l = c.loop-left in
    c.put_byte-2.ensures ∙ ap (with l.self) (sym (encode_small l.left c.loop-left-test.false)) ∙ l.invariant
