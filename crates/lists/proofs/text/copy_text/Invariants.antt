-- `text::copy_text` meets its contract. The invariant: what is still to be written, from n on, makes the store asked for.
-- Assumes nothing.
use Prim.Native.Nat.{◌-◌}
use lib.ListN.{length}
use Rattle.store.specs.Splice.{Writing}
use Rattle.lists.specs.Text.{bytes_at}
use Rattle.lists.proofs.text.copy_text.Given as goal

abbrev pub invariant-loop-e : goal.invariant-loop-e
invariant-loop-e l = Writing l.initial.store l.to (bytes_at l.quoted l.s l.at) l.store l.n (bytes_at l.quoted l.s l.i)

abbrev pub decreases-loop-e : goal.decreases-loop-e
decreases-loop-e l = length l.s - l.i
