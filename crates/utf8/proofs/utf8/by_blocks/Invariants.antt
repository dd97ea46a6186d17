-- `utf8::by_blocks` meets its contract. The invariant: the text is judged from i as from its start.
-- Assumes nothing.
use Rattle.std.proofs.Common.{◌≡◌, ◌-◌, ◌<◌, length}
use Rattle.utf8.specs.Utf8.{is_utf8, utf8_at, whole}
use Rattle.utf8.proofs.utf8.by_blocks.Given as goal

abbrev pub invariant-loop-i : goal.invariant-loop-i
invariant-loop-i l = (is_utf8 l.s ≡ utf8_at whole l.s l.i) × (0 < l.n)

abbrev pub decreases-loop-i : goal.decreases-loop-i
decreases-loop-i l = length l.s - l.i
