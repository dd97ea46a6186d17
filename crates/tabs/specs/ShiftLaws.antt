-- The handlers of tabs: what each answers to a reading does not depend on where the reading stands.
-- Assumes nothing.
use Rattle.std.specs.Prelude.{◌≡◌, Bool, List, ℕ, ◌+◌, eqb, length, drop, Result, Ok, Err, Some, None}
use Rattle.std.proofs.Math.Path.{refl}
use Rattle.std.proofs.Math.Bool.{true, false, cond}
use Rattle.limits.specs.declared.refusal.Refusal.{Refusal}
use Rattle.scan.specs.ShiftLaws.{eqb_shift}
use Rattle.ranges.specs.Range.{whole_range, RangeRead, WholeRead}
use Rattle.ranges.specs.Shift.{shift_spec, shift_range}
use Rattle.ranges.specs.declared.range.RangeEndingType.{RangeEndingType}
use Rattle.ranges.specs.declared.range.RangeSpec.{RangeSpec}
use Rattle.focus.specs.ShiftLaws.{range_focus_shift}
use Rattle.reading.specs.Line.{argument_of}
use Rattle.reading.specs.Shift.{shift_command}
use Rattle.reading.specs.ShiftLaws.{argument_shift}
use Rattle.reading.specs.declared.line.CommandDescription.{CommandDescription}
use Rattle.tabs.specs.Shift.{shift_tab}
use Rattle.tabs.specs.Tabs.{unargued, argued, either, tab_range, next_by, tabnext_of, back_end, back, prev_by, tabprev_of, move_range, tabmove_of}
use Rattle.tabs.specs.declared.tabs.TabRange.{TabRange}

module _ (k : ℕ) where
  -- the range that the argument is, and the one that is taken
  argued_shift : (w : WholeRead) → argued w ≡ shift_tab k (argued w)
  unfolding argued shift_tab
  argued_shift (Ok (Some g)) = refl
  argued_shift (Ok None) = refl
  argued_shift (Err why) = refl

  tab_range_shift : (g : RangeRead) (a : List ℕ) → tab_range (shift_range k g) a ≡ shift_tab k (tab_range g a)
  unfolding tab_range unargued either shift_range shift_tab
  tab_range_shift g a = go g (eqb (length a) 0)
    where
      go : (g : RangeRead) (b : Bool) → cond b (unargued (shift_range k g)) (either (shift_range k g) (whole_range a)) ≡ shift_tab k (cond b (unargued g) (either g (whole_range a)))
      go (Ok None) true = refl
      go (Ok None) false = argued_shift (whole_range a)
      go (Ok (Some (g, j))) true = refl
      go (Ok (Some (g, j))) false = refl
      go (Err why) true = refl
      go (Err why) false = refl

  -- digits alone
  back_end_shift : (e : RangeEndingType) (i j : ℕ) → back_end e (k + i) (k + j) ≡ back_end e i j
  unfolding back_end
  back_end_shift (RangeEndingType.Absolute n) i j = rw (eqb_shift k i j)
  back_end_shift RangeEndingType.Unspecified i j = refl
  back_end_shift RangeEndingType.Current i j = refl
  back_end_shift RangeEndingType.Last i j = refl
  back_end_shift RangeEndingType.All i j = refl
  back_end_shift (RangeEndingType.Search x) i j = refl
  back_end_shift RangeEndingType.SubPatSearch i j = refl
  back_end_shift (RangeEndingType.Mark b) i j = refl

  back_shift : (g : RangeSpec) → back (shift_spec k g) ≡ back g
  unfolding back shift_spec
  back_shift (RangeSpec.Single e) = back_end_shift e.atom e.from e.to
  back_shift (RangeSpec.Double l r p) = refl

  prev_shift : (g : Result TabRange Refusal) → prev_by (shift_tab k g) ≡ prev_by g
  unfolding prev_by shift_tab
  prev_shift (Ok TabRange.Absent) = refl
  prev_shift (Ok (TabRange.InLine g)) = back_shift g
  prev_shift (Ok (TabRange.InArgument g)) = refl
  prev_shift (Err e) = refl

  module _ (l : List ℕ) where
    -- the focus by it
    next_shift : (a : List ℕ) (g : Result TabRange Refusal) → next_by l a (shift_tab k g) ≡ next_by (drop k l) a g
    unfolding next_by shift_tab
    next_shift a (Ok TabRange.Absent) = refl
    next_shift a (Ok (TabRange.InLine g)) = range_focus_shift k l g true
    next_shift a (Ok (TabRange.InArgument g)) = refl
    next_shift a (Err e) = refl

    move_shift : (g : RangeRead) (a : List ℕ) → move_range l (shift_range k g) a ≡ move_range (drop k l) g a
    unfolding move_range shift_range
    move_shift (Ok None) a = refl
    move_shift (Ok (Some (g, j))) a = range_focus_shift k l g false
    move_shift (Err why) a = refl

    module _ (d : CommandDescription) where
      -- 17
      pub tabnext_shift : tabnext_of l (shift_command k d) ≡ tabnext_of (drop k l) d
      unfolding tabnext_of
      tabnext_shift =
          let a = argument_of (drop k l) d in
          rw (argument_shift k l d, tab_range_shift d.range a, next_shift a (tab_range d.range a))

      -- 19
      pub tabprev_shift : tabprev_of l (shift_command k d) ≡ tabprev_of (drop k l) d
      unfolding tabprev_of
      tabprev_shift =
          let a = argument_of (drop k l) d in
          rw (argument_shift k l d, tab_range_shift d.range a, prev_shift (tab_range d.range a))

      -- 16
      pub tabmove_shift : tabmove_of l (shift_command k d) ≡ tabmove_of (drop k l) d
      unfolding tabmove_of
      tabmove_shift = rw (argument_shift k l d, move_shift d.range (argument_of (drop k l) d))
