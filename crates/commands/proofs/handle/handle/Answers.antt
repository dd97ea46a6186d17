-- `handle::handle` meets its contract.
-- Assumes nothing.
use mathlib.Core.Path.{◌∙◌, sym, ap}
use native.Mathlib.Omega.{arith}
use Rattle.windows.specs.Open.{split_of}
use Rattle.commands.specs.Handle.{handle_of}
use Rattle.commands.specs.HandleLaws.{handle_split, handle_below, handle_above}
use Rattle.commands.proofs.handle.handle.Goals as goal

pub returns-in-5 : goal.returns-in-5
unfolding handle_of
returns-in-5 c = rw (c.vim_cmd_close.ensures, c.in-5.is)

pub returns-in-6 : goal.returns-in-6
unfolding handle_of
returns-in-6 c = rw (c.vim_cmd_only.ensures, c.in-6.is)

pub returns-in-7 : goal.returns-in-7
unfolding handle_of
returns-in-7 c = rw (c.vim_cmd_quit.ensures, c.in-7.is)

pub returns-in-8 : goal.returns-in-8
unfolding handle_of
returns-in-8 c = rw (c.vim_cmd_quitall.ensures, c.in-8.is)

pub returns-in-9 : goal.returns-in-9
unfolding handle_of
returns-in-9 c = rw (c.vim_cmd_resize.ensures, c.in-9.is)

pub returns-in-12 : goal.returns-in-12
unfolding handle_of
returns-in-12 c = rw (c.vim_cmd_view.ensures, c.in-12.is)

pub returns-in-14 : goal.returns-in-14
unfolding handle_of
returns-in-14 c = rw (c.vim_cmd_tabclose.ensures, c.in-14.is)

pub returns-in-15 : goal.returns-in-15
unfolding handle_of
returns-in-15 c = rw (c.vim_cmd_tabedit.ensures, c.in-15.is)

pub returns-in-16 : goal.returns-in-16
unfolding handle_of
returns-in-16 c = rw (c.vim_cmd_tabmove.ensures, c.in-16.is)

pub returns-in-17 : goal.returns-in-17
unfolding handle_of
returns-in-17 c = rw (c.vim_cmd_tabnext.ensures, c.in-17.is)

pub returns-in-18 : goal.returns-in-18
unfolding handle_of
returns-in-18 c = rw (c.vim_cmd_tabonly.ensures, c.in-18.is)

pub returns-in-19 : goal.returns-in-19
unfolding handle_of
returns-in-19 c = rw (c.vim_cmd_tabprev.ensures, c.in-19.is)

pub returns-in-20 : goal.returns-in-20
unfolding handle_of
returns-in-20 c = rw (c.vim_cmd_tabfirst.ensures, c.in-20.is)

pub returns-in-21 : goal.returns-in-21
unfolding handle_of
returns-in-21 c = rw (c.vim_cmd_tablast.ensures, c.in-21.is)

pub returns-in-22 : goal.returns-in-22
unfolding handle_of
returns-in-22 c = rw (c.vim_cmd_write.ensures, c.in-22.is)

pub returns-in-23 : goal.returns-in-23
unfolding handle_of
returns-in-23 c = rw (c.vim_cmd_write_all.ensures, c.in-23.is)

pub returns-in-10 : goal.returns-in-10
returns-in-10 c =
    c.vim_cmd_sp.ensures
    ∙ (ap (split_of _ _) c.split_context.ensures ∙ handle_split _ _ _ _ (omega arith) (omega arith))

pub returns-in_default : goal.returns-in_default
returns-in_default c = sym (handle_below _ _ _ _ (omega arith))

pub returns-in_default-2 : goal.returns-in_default-2
returns-in_default-2 c =
    sym (handle_above _ _ _ _ (omega arith)
    (λ e. omega arith) (λ e. omega arith) (λ e. omega arith) (λ e. omega arith) (λ e. omega arith) (λ e. omega arith)
    (λ e. omega arith) (λ e. omega arith) (λ e. omega arith) (λ e. omega arith) (λ e. omega arith))
