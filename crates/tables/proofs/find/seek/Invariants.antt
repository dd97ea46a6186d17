-- `find::seek` meets its contract. The invariant: the word is not among the first j, and the next of them ends at e.
-- Assumes nothing.
use Rattle.std.proofs.Common.{◌≡◌, ◌+◌, ◌-◌, ◌*◌, ◌≤◌, length, drop}
use Rattle.tables.specs.Walk.{seek as seek_of}
use Rattle.tables.proofs.find.seek.Given as goal

abbrev pub invariant-loop-j : goal.invariant-loop-j
invariant-loop-j l =
    (l.j ≤ l.c) × ((l.q + length l.w.bytes.now ≤ l.e) × ((l.e + (l.c - l.j) * length l.w.bytes.now ≡ l.q + length l.w.bytes.now + l.c * length l.w.bytes.now) × (l.j + seek_of (l.c - l.j) l.w.bytes.now (drop (l.e - length l.w.bytes.now) l.b) ≡ seek_of l.c l.w.bytes.now (drop l.q l.b))))
