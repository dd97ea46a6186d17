-- `store::put_number` meets its contract. The invariant: the groups of what is left, written from here on, give the store asked for.
-- Assumes nothing.
use Prim.Native.Nat.{◌<◌, ◌^◌}
use Rattle.store.specs.Sevens.{encode}
use Rattle.store.specs.Splice.{Writing}
use Rattle.store.proofs.put_number.Given as goal

abbrev pub invariant-loop-left : goal.invariant-loop-left
invariant-loop-left l = Writing l.initial.store l.at (encode l.n) l.store l.i (encode l.left) × (l.left < 2 ^ 64)

abbrev pub decreases-loop-left : goal.decreases-loop-left
decreases-loop-left l = l.left
