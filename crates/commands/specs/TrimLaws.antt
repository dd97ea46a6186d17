-- Spaces before a line change nothing: the run of the line without them is the run of the line, which passes them by itself.
-- Document 01, section Reading: "One reading takes: spaces; any colons; spaces; a range or none; a word; .."
-- Assumes nothing.
use Rattle.std.specs.Prelude.{◌≡◌, List, ℕ, ◌≤◌, eqb, drop, Ok, Err, Option, Some, None}
use Rattle.std.proofs.Math.Path.{refl}
use Rattle.std.proofs.Common.{◌∙◌, sym, ap, arith}
use Rattle.scan.specs.Bytes.{is_space}
use Rattle.scan.specs.Scan.{run_at, part_of}
use Rattle.scan.specs.ShiftLaws.{cond_shift, eqb_shift, part_shift}
use Rattle.reading.specs.Line.{reading_of, CommandRead}
use Rattle.reading.specs.Shift.{shift_command, shift_reading}
use Rattle.reading.specs.ShiftLaws.{argument_shift, reading_shift}
use Rattle.reading.specs.declared.line.CommandDescription.{CommandDescription}
use Rattle.context.specs.declared.context.CommandContext.{CommandContext}
use Rattle.focus.specs.Focus.{focus_of, Focused}
use Rattle.focus.specs.ShiftLaws.{focus_shift}
use Rattle.handlers.specs.ShiftLaws.{close_shift, only_shift, quit_shift, tabclose_shift, tabonly_shift}
use Rattle.handlers.specs.Done.{Done}
use Rattle.resize.specs.ShiftLaws.{resize_shift}
use Rattle.tabs.specs.ShiftLaws.{tabmove_shift, tabnext_shift, tabprev_shift}
use Rattle.windows.specs.ShiftLaws.{split_shift, vsplit_shift, view_shift, tabedit_shift, write_shift}
use Rattle.windows.specs.Write.{wall_of}
use Rattle.words.specs.Words.{Row, lookup_in}
use Rattle.commands.specs.Handle.{role_of, handle_of}
use Rattle.commands.specs.Run.{by_focus, by_role, by_name, by_reading, decide, Answer, done_out, trim, step, run_on, line_from}
use Rattle.commands.specs.RunLaws.{run_is}
use Rattle.commands.specs.Shift.{shift_next}
use Rattle.commands.specs.declared.next.Next.{Next}
use Rattle.commands.specs.declared.next.Role.{Role}

module _ (k : ℕ) (l : List ℕ) where
  -- each handler's answer is the same
  handle_shift : (n : ℕ) (d : CommandDescription) (x : CommandContext) → handle_of n l (shift_command k d) x ≡ handle_of n (drop k l) d x
  unfolding handle_of wall_of
  handle_shift n d x =
      rw (
        close_shift k l d,
        only_shift k l d,
        quit_shift k l d,
        resize_shift k l d x,
        split_shift k l d x,
        vsplit_shift k l d x,
        view_shift k l d x,
        tabclose_shift k l d,
        tabedit_shift k l d,
        tabmove_shift k l d,
        tabnext_shift k l d,
        tabonly_shift k l d,
        tabprev_shift k l d,
        write_shift k l d,
      )

  -- and stands for the same action
  done_shift : (d : CommandDescription) (r : Done) → done_out l (shift_command k d) r ≡ done_out (drop k l) d r
  unfolding done_out
  done_shift d (Ok a) = rw (argument_shift k l d)
  done_shift d (Err e) = refl

  -- a reading leads to the same
  focus_next : (d : CommandDescription) (f : Focused) → by_focus (shift_command k d) f ≡ shift_next k (by_focus d f)
  unfolding by_focus shift_next
  focus_next d (Ok f) = refl
  focus_next d (Err e) = refl

  role_next : (d : CommandDescription) (n : ℕ) (r : Role) → by_role l (shift_command k d) n r ≡ shift_next k (by_role (drop k l) d n r)
  unfolding by_role shift_next
  role_next d n Role.Tab = rw (focus_shift k l d.range) (focus_next d (focus_of (drop k l) d.range))
  role_next d n (Role.Axis a) = refl
  role_next d n (Role.Side a) = refl
  role_next d n Role.Action = refl

  name_next : (d : CommandDescription) (m : Option ℕ) → by_name l (shift_command k d) m ≡ shift_next k (by_name (drop k l) d m)
  unfolding by_name shift_next
  name_next d (Some n) = role_next d n (role_of n)
  name_next d None = refl

  module _ (table : List Row) where
    reading_next : (r : CommandRead) → by_reading table l (shift_reading k r) ≡ shift_next k (by_reading table (drop k l) r)
    unfolding by_reading shift_reading shift_next
    reading_next (Ok d) =
        rw (eqb_shift k d.word d.end, part_shift k l d.word d.end)
        (cond_shift (shift_next k) (eqb d.word d.end) refl (name_next d (lookup_in table (part_of (drop k l) d.word d.end))))
    reading_next (Err why) = refl

    -- the first reading
    decide_shift : k ≤ run_at is_space l 0 → decide table l ≡ shift_next k (decide table (drop k l))
    unfolding decide
    decide_shift h = rw (reading_shift k l h) (reading_next (reading_of (drop k l)))

    -- what it leads to is done alike: the argument that is read next is the same list
    step_shift : (go : CommandContext → List ℕ → Answer) (x : CommandContext) (v : Next) → step table go x l (shift_next k v) ≡ step table go x (drop k l) v
    unfolding step shift_next
    step_shift go x Next.Empty = refl
    step_shift go x (Next.Refused e) = refl
    step_shift go x (Next.Unknown a e) = rw (part_shift k l a e)
    step_shift go x (Next.Runs n d) = rw (handle_shift n d x, done_shift d (handle_of n (drop k l) d x))
    step_shift go x (Next.Again ch a e) = rw (part_shift k l a e)

    -- any number of the spaces that a text starts with may be left out
    pub run_spaces : (x : CommandContext) → k ≤ run_at is_space l 0 → run_on table x (drop k l) ≡ run_on table x l
    run_spaces x h =
        run_is table x (drop k l)
        ∙ sym (step_shift (run_on table) x (decide table (drop k l)))
        ∙ ap (step table (run_on table) x l) (sym (decide_shift h))
        ∙ sym (run_is table x l)

-- the run of the trimmed line is the run of the line
pub trim_run : (table : List Row) (x : CommandContext) (l : List ℕ) → line_from table x l ≡ run_on table x l
unfolding line_from trim
trim_run table x l = run_spaces (run_at is_space l 0) l table x (omega arith)
