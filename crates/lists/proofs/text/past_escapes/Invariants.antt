-- `text::past_escapes` meets its contract. The invariant is the contract's first part, at i and n.
-- Assumes nothing.
use Prim.Native.Nat.{◌-◌}
use lib.ListN.{length}
use Rattle.lists.specs.TextLaws.{Escaped}
use Rattle.lists.proofs.text.past_escapes.Given as goal

abbrev pub invariant-loop-i : goal.invariant-loop-i
invariant-loop-i l = Escaped l.quoted l.s l.at l.i l.n

abbrev pub decreases-loop-i : goal.decreases-loop-i
decreases-loop-i l = length l.s - l.i
