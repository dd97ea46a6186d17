-- `spellings::is_same` meets its contract. The invariant: the words are the same where what is left of them is.
-- Assumes nothing.
use mathlib.Core.Path.{◌≡◌}
use Prim.Native.Nat.{◌-◌, ◌≤◌}
use lib.ListN.{length, drop}
use Rattle.words.specs.Words.{same}
use Rattle.spellings.proofs.is_same.Given as goal

abbrev pub invariant-loop-i : goal.invariant-loop-i
invariant-loop-i l = (same (drop l.i l.v) (drop l.i l.w) ≡ same l.v l.w) × (l.i ≤ length l.v) × (length l.v ≡ length l.w)
