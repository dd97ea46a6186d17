-- Positions moved: the range of a tab's handler, in the positions of a text with k bytes more in front.
-- Assumes nothing.
use Rattle.std.specs.Prelude.{ℕ, Result, Ok, Err}
use Rattle.limits.specs.declared.refusal.Refusal.{Refusal}
use Rattle.ranges.specs.Shift.{shift_spec}
use Rattle.tabs.specs.declared.tabs.TabRange.{TabRange}

-- a range in the argument stays: its positions are those of the argument
unfoldable pub shift_tab : ℕ → Result TabRange Refusal → Result TabRange Refusal
shift_tab k (Ok TabRange.Absent) = Ok TabRange.Absent
shift_tab k (Ok (TabRange.InLine g)) = Ok (TabRange.InLine (shift_spec k g))
shift_tab k (Ok (TabRange.InArgument g)) = Ok (TabRange.InArgument g)
shift_tab k (Err e) = Err e
