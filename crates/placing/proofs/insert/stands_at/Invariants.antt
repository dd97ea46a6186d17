-- `insert::stands_at` meets its contract. The invariant: the words are the same if they are from k on.
-- Assumes nothing.
use mathlib.Core.Path.{◌≡◌}
use Prim.Native.Nat.{◌+◌, ◌≤◌}
use lib.ListN.{length, drop}
use Rattle.scan.specs.Scan.{part_of}
use Rattle.words.specs.Words.{same}
use Rattle.placing.proofs.insert.stands_at.Given as goal

abbrev pub invariant-loop-k : goal.invariant-loop-k
invariant-loop-k l = (l.k ≤ length l.w) × (same l.w (part_of l.b l.q (l.q + length l.w)) ≡ same (drop l.k l.w) (drop l.k (part_of l.b l.q (l.q + length l.w))))
