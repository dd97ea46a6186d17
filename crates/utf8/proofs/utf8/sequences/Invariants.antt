-- `utf8::sequences` meets its contract. The invariant: the text is judged from i as from `at`.
-- Assumes nothing.
use Rattle.std.proofs.Common.{◌≡◌, ◌-◌, ◌≤◌, length}
use Rattle.utf8.specs.Utf8.{utf8_at, whole}
use Rattle.utf8.proofs.utf8.sequences.Given as goal

abbrev pub invariant-loop-i : goal.invariant-loop-i
invariant-loop-i l = (l.at ≤ l.i) × (l.i ≤ length l.s) × (utf8_at whole l.s l.at ≡ utf8_at whole l.s l.i)

abbrev pub decreases-loop-i : goal.decreases-loop-i
decreases-loop-i l = length l.s - l.i
