-- `text::put_tokens` meets its contract. The invariant: what is left is that of the tokens from `i` on.
-- Assumes nothing.
use Prim.Native.Nat.{◌-◌}
use Rattle.store.specs.Splice.{Writing}
use Rattle.tokens.specs.ThroughLaws.{left_at}
use Rattle.tokens.proofs.text.put_tokens.Given as goal

abbrev pub invariant-loop-i : goal.invariant-loop-i
invariant-loop-i l = Writing l.initial.store l.at (left_at l.w l.o l.s l.to l.from) l.store l.j (left_at l.w l.o l.s l.to l.i)

abbrev pub decreases-loop-i : goal.decreases-loop-i
decreases-loop-i l = l.to - l.i
