-- `lent::line_in` meets its contract.
-- Assumes nothing.
use mathlib.Core.Path.{sym, ◌∙◌, ap}
use lib.ListN.{length}
use Rattle.commands.specs.Line.{store_after}
use Rattle.run.specs.Reply.{reply}
use Rattle.session.specs.LentLaws.{nothing_written, line_99, line_on_lem}
use Rattle.session.proofs.lent.line_in.Goals as goal

pub returns-then-not-sound : goal.returns-then-not-sound
returns-then-not-sound c = let a = c.args in
    let x = line_99 a.b.now a.line.now (length a.store.now) (sym c.sound.ensures ∙ c.if-not-sound.true) in
    record { answer = c.turned.ensures ∙ ap reply (sym x.0); store = nothing_written _ _ ∙ ap (λ v. store_after v.out a.store.now) (sym x.0); session = sym x.1 }

pub returns : goal.returns
returns c = let a = c.args in
    let x = line_on_lem a.b.now a.line.now (length a.store.now) (sym c.sound.ensures ∙ c.if-not-sound.false) in
    let e = c.line_on.ensures in
    record { answer = e.answer ∙ ap reply (sym x.0); store = e.store ∙ ap (λ v. store_after v.out a.store.now) (sym x.0); session = e.session ∙ sym x.1 }
