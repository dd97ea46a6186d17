-- `answer::Answer::put_bytes` meets its contract. The invariant: the bytes so far are put.
-- Assumes nothing.
use Rattle.std.proofs.Common.{◌≡◌, take}
use Rattle.vectors.specs.Answer.{with}
use Rattle.vectors.proofs.answer.Answer.put_bytes.Given as goal

abbrev pub invariant-loop-i : goal.invariant-loop-i
invariant-loop-i l = l.self ≡ with l.initial.self (take l.i l.s)
