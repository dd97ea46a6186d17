-- `answer::Answer::put_number` meets its contract. The invariant: with the groups of what is left, it is what was asked for.
-- Assumes nothing.
use Rattle.std.proofs.Common.{◌≡◌}
use Rattle.store.specs.Sevens.{encode}
use Rattle.vectors.specs.Answer.{with}
use Rattle.vectors.proofs.answer.Answer.put_number.Given as goal

abbrev pub invariant-loop-left : goal.invariant-loop-left
invariant-loop-left l = with l.self (encode l.left) ≡ with l.initial.self (encode l.x)

abbrev pub decreases-loop-left : goal.decreases-loop-left
decreases-loop-left l = l.left
