-- `lent::remembered_in` meets its contract.
-- Assumes nothing.
use mathlib.Core.Path.{◌≡◌, sym, ◌∙◌}
use native.Mathlib.Omega.{arith}
use lib.ListN.{length}
use borrow.Author.Tests.{le-leb, lt-leb}
use Rattle.layout.specs.Layout.{session_of}
use Rattle.session.specs.LentLaws.{read_back_99, read_back_short, read_back_good}
use Rattle.run.specs.ReplyLaws.{front}
use Rattle.session.proofs.lent.remembered_in.Goals as goal

pub returns-then-not-sound : goal.returns-then-not-sound
returns-then-not-sound c = let a = c.args in
    let x = read_back_99 a.b.now a.store.now (sym c.sound.ensures ∙ c.if-not-sound.true) in
    record { refusal = x.0; count = x.1.0; store = x.1.1 }

pub returns-then-store-line : goal.returns-then-store-line
returns-then-store-line c = let a = c.args in
    let taken = sym c.sound.ensures ∙ c.if-not-sound.false in
    let x = read_back_short a.b.now a.store.now taken (lt-leb _ _ (rw c.remembered-line.ensures at c.if-store-line.true)) in
    record { refusal = x.0; count = x.1.0; store = x.1.1 }

pub returns : goal.returns
returns c = let a = c.args in
    let fits = rw c.remembered-line.ensures at c.if-store-line.false in
    let p = rw c.remembered-line.ensures at c.put_bytes.ensures in
    let n : c.put_bytes.result ≡ length (session_of a.b.now).line = omega (arith, p.place) in
    let x = read_back_good a.b.now a.store.now (sym c.sound.ensures ∙ c.if-not-sound.false) (le-leb _ _ fits) in
    record { refusal = x.0; count = n ∙ x.1.0; store = front p (omega (arith, p.place, fits)) ∙ x.1.1 }
