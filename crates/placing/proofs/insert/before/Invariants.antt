-- `insert::before` meets its contract. The invariant: the word at q and w are alike from k on.
-- Assumes nothing.
use mathlib.Core.Path.{◌≡◌}
use Prim.Native.Nat.{◌+◌, ◌≤◌}
use lib.ListN.{length, drop}
use Rattle.scan.specs.Scan.{part_of}
use Rattle.placing.proofs.insert.before.Given as goal

abbrev pub invariant-loop-k : goal.invariant-loop-k
invariant-loop-k l = (l.k ≤ length l.w) × (drop l.k (part_of l.b l.q (l.q + length l.w)) ≡ drop l.k l.w)
