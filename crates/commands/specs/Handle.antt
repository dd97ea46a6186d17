-- The commands by their numbers, in the order of default_cmds. Document 01, section Commands: "Prefixes are tab, horizontal, vertical,
-- aboveleft and belowright"; refusal 11: "`!`, `&`, read, print and substitute".
-- Assumes nothing.
use Rattle.std.specs.Prelude.{cond, List, ℕ, eqb, Err}
use Rattle.limits.specs.declared.refusal.Refusal.{Refusal}
use Rattle.actions.specs.declared.action.Axis.{Axis}
use Rattle.actions.specs.declared.action.Side.{Side}
use Rattle.context.specs.declared.context.CommandContext.{CommandContext}
use Rattle.handlers.specs.Close.{close_of, only_of, quit_of, quitall_of, tabclose_of, tabonly_of, tabfirst_of, tablast_of}
use Rattle.handlers.specs.Done.{Done}
use Rattle.reading.specs.declared.line.CommandDescription.{CommandDescription}
use Rattle.resize.specs.Resize.{resize_of}
use Rattle.tabs.specs.Tabs.{tabmove_of, tabnext_of, tabprev_of}
use Rattle.windows.specs.Open.{split_of, vsplit_in, vsplit_of, view_of, tabedit_of}
use Rattle.windows.specs.Write.{write_of, wall_of}
use Rattle.commands.specs.declared.next.Role.{Role}

-- which commands are prefixes, and what they set
unfoldable pub role_of : ℕ → Role
role_of n =
    cond (eqb n 13) Role.Tab
    (cond (eqb n 24) (Role.Axis Axis.Horizontal)
    (cond (eqb n 25) (Role.Axis Axis.Vertical)
    (cond (eqb n 26) (Role.Side Side.Previous)
    (cond (eqb n 27) (Role.Side Side.Next) Role.Action))))

-- a prefix: it sets something, and its argument is read next
abbrev pub IsPrefix : Role → Type 0
IsPrefix Role.Tab = Unit {0}
IsPrefix (Role.Axis a) = Unit {0}
IsPrefix (Role.Side d) = Unit {0}
IsPrefix Role.Action = ⊥

-- the context in which 10 and 11 are run
unfoldable pub split_context : ℕ → CommandContext → CommandContext
split_context n x = cond (eqb n 11) (vsplit_in x) x

-- what each of the other commands does with a reading d of the text s, in the context x
unfoldable pub handle_of : ℕ → List ℕ → CommandDescription → CommandContext → Done
handle_of n s d x =
    cond (eqb n 5) (close_of s d)
    (cond (eqb n 6) (only_of s d)
    (cond (eqb n 7) (quit_of s d)
    (cond (eqb n 8) (quitall_of d)
    (cond (eqb n 9) (resize_of s d x)
    (cond (eqb n 10) (split_of s d x)
    (cond (eqb n 11) (vsplit_of s d x)
    (cond (eqb n 12) (view_of s d x)
    (cond (eqb n 14) (tabclose_of s d)
    (cond (eqb n 15) (tabedit_of s d)
    (cond (eqb n 16) (tabmove_of s d)
    (cond (eqb n 17) (tabnext_of s d)
    (cond (eqb n 18) (tabonly_of s d)
    (cond (eqb n 19) (tabprev_of s d)
    (cond (eqb n 20) tabfirst_of
    (cond (eqb n 21) tablast_of
    (cond (eqb n 22) (write_of s d)
    (cond (eqb n 23) (wall_of d) (Err Refusal.Unimplemented))))))))))))))))))
