-- The handlers of windows: what each answers to a reading does not depend on where the reading stands.
-- Assumes nothing.
use Rattle.std.specs.Prelude.{◌≡◌, List, ℕ, drop, Ok, Err, Some, None}
use Rattle.std.proofs.Math.Path.{refl, ap}
use Rattle.ranges.specs.Shift.{shift_range}
use Rattle.ranges.specs.Range.{RangeRead}
use Rattle.context.specs.declared.context.CommandContext.{CommandContext}
use Rattle.focus.specs.ShiftLaws.{focus_shift, count_shift}
use Rattle.reading.specs.Shift.{shift_command}
use Rattle.reading.specs.ShiftLaws.{argument_shift}
use Rattle.reading.specs.declared.line.CommandDescription.{CommandDescription}
use Rattle.windows.specs.Open.{sized_by, size_of, split_of, vsplit_in, vsplit_of, view_of, tabedit_of}
use Rattle.windows.specs.Write.{write_of}

module _ (k : ℕ) (l : List ℕ) where
  -- the size that a range gives
  size_shift : (g : RangeRead) → size_of l (shift_range k g) ≡ size_of (drop k l) g
  unfolding size_of shift_range
  size_shift (Ok None) = refl
  size_shift (Ok (Some (g, j))) = ap sized_by (count_shift k l g)
  size_shift (Err why) = refl

  module _ (d : CommandDescription) where
    -- 10
    pub split_shift : (x : CommandContext) → split_of l (shift_command k d) x ≡ split_of (drop k l) d x
    unfolding split_of
    split_shift x = rw (argument_shift k l d, size_shift d.range)

    -- 11
    pub vsplit_shift : (x : CommandContext) → vsplit_of l (shift_command k d) x ≡ vsplit_of (drop k l) d x
    unfolding vsplit_of
    vsplit_shift x = split_shift (vsplit_in x)

    -- 12
    pub view_shift : (x : CommandContext) → view_of l (shift_command k d) x ≡ view_of (drop k l) d x
    unfolding view_of
    view_shift x = rw (argument_shift k l d)

    -- 15
    pub tabedit_shift : tabedit_of l (shift_command k d) ≡ tabedit_of (drop k l) d
    unfolding tabedit_of
    tabedit_shift = rw (argument_shift k l d, focus_shift k l d.range)

    -- 22
    pub write_shift : write_of l (shift_command k d) ≡ write_of (drop k l) d
    unfolding write_of
    write_shift = rw (argument_shift k l d)
