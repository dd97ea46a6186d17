-- `list::items_from` meets its contract. The invariant: what is seen from i on, after what was seen before, is what is seen of the whole.
-- Assumes nothing.
use mathlib.Core.Path.{◌≡◌}
use mathlib.Core.Bool.{false}
use Prim.Native.Nat.{◌-◌, ◌≤◌}
use lib.ListN.{length}
use Rattle.lists.specs.Lists.{items_at}
use Rattle.lists.specs.Listed.{list_from}
use Rattle.lists.specs.declared.list.Picked.{Picked}
use Rattle.lists.proofs.list.items_from.Given as goal

abbrev pub invariant-loop-j : goal.invariant-loop-j
invariant-loop-j l =
    (l.n ≤ l.i) × (list_from l.s l.flags 0 false (Picked.Ahead l.place) (items_at l.s 0) ≡ list_from l.s l.flags l.n l.keyless l.picked (items_at l.s l.i))

abbrev pub decreases-loop-j : goal.decreases-loop-j
decreases-loop-j l = length l.s - l.i
