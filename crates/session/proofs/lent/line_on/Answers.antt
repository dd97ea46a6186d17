-- `lent::line_on` meets its contract.
-- Assumes nothing.
use mathlib.Core.Path.{sym, ◌∙◌, ap}
use lib.ListN.{length}
use Rattle.reading.specs.Alone.{line_room}
use Rattle.reading.specs.Checks.{check_for_passed}
use Rattle.commands.specs.Line.{store_after}
use Rattle.run.specs.Reply.{reply}
use Rattle.layout.specs.SoundLaws.{sound_told}
use Rattle.session.specs.LentLaws.{nothing_written, on_bad, on_good}
use Rattle.session.proofs.lent.line_on.Goals as goal

pub run_in-requires : goal.run_in-requires
run_in-requires c = let a = c.args in
    let line = a.line.now in
    let passed = check_for_passed (line_room line) line (length a.store.now) (sym c.check_line.ensures ∙ c.in-Ok.is) in
    record { b_len = (sound_told a.b.now c.requires).size; line_len_bound = passed.0; line_in_bounds = passed.1 }

pub returns-in-Ok : goal.returns-in-Ok
returns-in-Ok c = let a = c.args in
    let x = on_good a.b.now a.line.now (length a.store.now) (sym c.check_line.ensures ∙ c.in-Ok.is) in
    let e = c.run_in.ensures in
    record { answer = e.answer ∙ ap reply (sym x.0); store = e.store ∙ ap (λ v. store_after v.out a.store.now) (sym x.0); session = e.session ∙ sym x.1 }

pub returns-in-Err : goal.returns-in-Err
returns-in-Err c = let a = c.args in
    let x = on_bad a.b.now a.line.now (length a.store.now) _ (sym c.check_line.ensures ∙ c.in-Err.is) in
    record { answer = c.turned.ensures ∙ ap reply (sym x.0); store = nothing_written _ _ ∙ ap (λ v. store_after v.out a.store.now) (sym x.0); session = sym x.1 }
