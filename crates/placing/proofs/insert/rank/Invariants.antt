-- `insert::rank` meets its contract. The invariant: j words come before w, and the others are left from p on.
-- Assumes nothing.
use mathlib.Core.Path.{◌≡◌}
use Prim.Native.Nat.{◌+◌, ◌-◌, ◌*◌, ◌≤◌}
use lib.ListN.{length, drop}
use Rattle.tables.specs.Walk.{rank}
use Rattle.placing.proofs.insert.rank.Given as goal

abbrev pub invariant-loop-j : goal.invariant-loop-j
invariant-loop-j l = (l.j ≤ l.c) × (l.p ≡ l.q + l.j * length l.w) × (rank l.c l.w (drop l.q l.b) ≡ l.j + rank (l.c - l.j) l.w (drop l.p l.b))
