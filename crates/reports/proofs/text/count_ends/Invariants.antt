-- `text::count_ends` meets its contract. The invariant: the ends before i were counted, and none of them stands behind it.
-- Assumes nothing.
use Rattle.std.proofs.Common.{◌≡◌, ◌≤◌, eqb, take}
use Rattle.std.specs.List.{count_by}
use Rattle.reports.proofs.text.count_ends.Given as goal

abbrev pub invariant-loop-i : goal.invariant-loop-i
invariant-loop-i l = record { within : l.behind ≤ l.i; lines : l.lines ≡ count_by (eqb 0x0A) (take l.i l.s) }
