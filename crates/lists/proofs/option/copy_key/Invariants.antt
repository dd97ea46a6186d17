-- `option::copy_key` meets its contract. The invariant: the key that is left at i is still to be written, and what follows it is the same.
-- Assumes nothing.
use mathlib.Core.Path.{◌≡◌}
use Prim.Native.Nat.{◌-◌}
use lib.ListN.{length}
use Rattle.store.specs.Splice.{Writing}
use Rattle.lists.specs.Text.{bytes_at}
use Rattle.lists.specs.Lists.{key_of, after_key}
use Rattle.lists.proofs.option.copy_key.Given as goal

abbrev pub invariant-loop-b : goal.invariant-loop-b
invariant-loop-b l =
    Writing l.initial.store 0 (key_of (bytes_at l.quoted l.s l.at)) l.store l.n (key_of (bytes_at l.quoted l.s l.i))
    × (after_key (bytes_at l.quoted l.s l.at) ≡ after_key (bytes_at l.quoted l.s l.i))

abbrev pub decreases-loop-b : goal.decreases-loop-b
decreases-loop-b l = length l.s - l.i
