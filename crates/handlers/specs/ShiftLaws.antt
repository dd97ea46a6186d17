-- The handlers that close: what each answers to a reading does not depend on where the reading stands.
-- Assumes nothing.
use Rattle.std.specs.Prelude.{◌≡◌, List, ℕ, drop}
use Rattle.std.proofs.Common.{ap}
use Rattle.focus.specs.ShiftLaws.{focus_shift}
use Rattle.reading.specs.Shift.{shift_command}
use Rattle.reading.specs.declared.line.CommandDescription.{CommandDescription}
use Rattle.handlers.specs.Close.{forced, quitting, one_of, others_of, close_windows, close_tabs, close_of, only_of, quit_of, tabclose_of, tabonly_of}

module _ (k : ℕ) (l : List ℕ) (d : CommandDescription) where
  -- 5
  pub close_shift : close_of l (shift_command k d) ≡ close_of (drop k l) d
  close_shift = ap (λ f. close_windows (forced d.bang) (one_of f)) (focus_shift k l d.range)

  -- 6
  pub only_shift : only_of l (shift_command k d) ≡ only_of (drop k l) d
  only_shift = ap (λ f. close_windows (quitting d.bang) (others_of f)) (focus_shift k l d.range)

  -- 7
  pub quit_shift : quit_of l (shift_command k d) ≡ quit_of (drop k l) d
  quit_shift = ap (λ f. close_windows (quitting d.bang) (one_of f)) (focus_shift k l d.range)

  -- 14
  pub tabclose_shift : tabclose_of l (shift_command k d) ≡ tabclose_of (drop k l) d
  tabclose_shift = ap (λ f. close_tabs (quitting d.bang) (one_of f)) (focus_shift k l d.range)

  -- 18
  pub tabonly_shift : tabonly_of l (shift_command k d) ≡ tabonly_of (drop k l) d
  tabonly_shift = ap (λ f. close_tabs (quitting d.bang) (others_of f)) (focus_shift k l d.range)
