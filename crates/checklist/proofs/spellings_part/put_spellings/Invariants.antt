-- `checklist::spellings_part::put_spellings` is safe and ends: each row stops behind its start.
-- Assumes nothing.
use Rattle.std.proofs.Common.{◌-◌, length}
use Rattle.checklist.proofs.spellings_part.put_spellings.Given as goal

abbrev pub decreases-loop-i : goal.decreases-loop-i
decreases-loop-i g l = length l.rows - l.i
