-- `text::put_escapes` meets its contract. The invariant is the contract's first two parts, at i and n.
-- Assumes nothing.
use Prim.Native.Nat.{◌-◌, ◌≤◌}
use lib.ListN.{length}
use Rattle.store.specs.Splice.{Writing}
use Rattle.lists.specs.Text.{bytes_at}
use Rattle.lists.proofs.text.put_escapes.Given as goal

abbrev pub invariant-loop-i : goal.invariant-loop-i
invariant-loop-i l = Writing l.initial.store l.to (bytes_at l.quoted l.s l.at) l.store l.n (bytes_at l.quoted l.s l.i) × (l.at ≤ l.i)

abbrev pub decreases-loop-i : goal.decreases-loop-i
decreases-loop-i l = length l.s - l.i
