-- `remove::move_down` meets its contract. The invariant: the bytes before i are moved.
-- Assumes nothing.
use mathlib.Core.Path.{◌≡◌}
use Prim.Native.Nat.{◌-◌, ◌≤◌}
use lib.Seq.{sets}
use Rattle.scan.specs.Scan.{part_of}
use Rattle.placing.proofs.remove.move_down.Given as goal

abbrev pub invariant-loop-i : goal.invariant-loop-i
invariant-loop-i l = (l.from ≤ l.i) × ((l.i ≤ l.to) × (l.b ≡ sets l.initial.b (l.from - l.k) (part_of l.initial.b l.from l.i)))
