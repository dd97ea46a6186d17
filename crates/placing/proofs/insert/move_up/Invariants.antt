-- `insert::move_up` meets its contract. The invariant: the bytes from i on stand k places higher, and nothing else has changed.
-- Assumes nothing.
use mathlib.Core.Path.{◌≡◌}
use Prim.Native.Nat.{◌+◌, ◌≤◌}
use lib.ListN.{length}
use lib.Seq.{sets}
use Rattle.scan.specs.Scan.{part_of}
use Rattle.placing.proofs.insert.move_up.Given as goal

abbrev pub invariant-loop-i : goal.invariant-loop-i
invariant-loop-i l = (l.from ≤ l.i) × (l.i ≤ l.to) × (length l.b ≡ length l.initial.b) × (l.b ≡ sets l.initial.b (l.i + l.k) (part_of l.initial.b l.i l.to))
