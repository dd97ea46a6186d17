-- The handler that resizes: what it answers to a reading does not depend on where the reading stands.
-- Assumes nothing.
use Rattle.std.specs.Prelude.{◌≡◌, List, ℕ, drop}
use Rattle.context.specs.declared.context.CommandContext.{CommandContext}
use Rattle.focus.specs.ShiftLaws.{focus_shift}
use Rattle.reading.specs.Shift.{shift_command}
use Rattle.reading.specs.ShiftLaws.{argument_shift}
use Rattle.reading.specs.declared.line.CommandDescription.{CommandDescription}
use Rattle.resize.specs.Resize.{resize_of}

-- 9
pub resize_shift : (k : ℕ) (l : List ℕ) (d : CommandDescription) (x : CommandContext) → resize_of l (shift_command k d) x ≡ resize_of (drop k l) d x
unfolding resize_of
resize_shift k l d x = rw (argument_shift k l d, focus_shift k l d.range)
