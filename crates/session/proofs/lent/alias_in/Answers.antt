-- `lent::alias_in` meets its contract.
-- Assumes nothing.
use mathlib.Core.Path.{sym, ◌∙◌}
use native.Mathlib.Omega.{arith}
use borrow.Author.Tests.{le-leb, lt-leb}
use Rattle.layout.specs.SoundLaws.{sound_table, put_in}
use Rattle.session.specs.LentLaws.{alias_99, alias_word, alias_command, alias_full, alias_added}
use Rattle.session.proofs.lent.alias_in.Goals as goal

pub returns-then-not-sound : goal.returns-then-not-sound
returns-then-not-sound c = let a = c.args in
    let x = alias_99 a.b.now a.w.now a.command (sym c.sound.ensures ∙ c.if-not-sound.true) in record { answer = sym x.0; session = sym x.1 }

pub returns-then-not-is_name : goal.returns-then-not-is_name
returns-then-not-is_name c = let a = c.args in
    let taken = sym c.sound.ensures ∙ c.if-not-sound.false in
    let x = alias_word a.b.now a.w.now a.command taken (sym c.is_name.ensures ∙ c.if-not-is_name.true) in record { answer = sym x.0; session = sym x.1 }

pub returns-then-command : goal.returns-then-command
returns-then-command c = let a = c.args in
    let taken = sym c.sound.ensures ∙ c.if-not-sound.false in
    let good = sym c.is_name.ensures ∙ c.if-not-is_name.false in
    let x = alias_command a.b.now a.w.now a.command taken good (lt-leb _ _ c.if-command.true) in record { answer = sym x.0; session = sym x.1 }

pub returns-then-full : goal.returns-then-full
returns-then-full c = let a = c.args in
    let taken = sym c.sound.ensures ∙ c.if-not-sound.false in
    let good = sym c.is_name.ensures ∙ c.if-not-is_name.false in
    let x = alias_full a.b.now a.w.now a.command taken good (le-leb _ _ c.if-command.false) (sym c.full.ensures ∙ c.if-full.true) in record { answer = sym x.0; session = sym x.1 }

pub put-requires : goal.put-requires
put-requires c = let a = c.args in
    record { most_bound = omega arith; b_value = sound_table a.b.now (sym c.sound.ensures ∙ c.if-not-sound.false) }

pub returns : goal.returns
returns c = let a = c.args in
    let taken = sym c.sound.ensures ∙ c.if-not-sound.false in
    let good = sym c.is_name.ensures ∙ c.if-not-is_name.false in
    let room = sym c.full.ensures ∙ c.if-full.false in
    let x = alias_added a.b.now a.w.now a.command taken good (le-leb _ _ c.if-command.false) room in record { answer = sym x.0; session = c.put.ensures.bytes ∙ put_in a.b.now a.w.now taken good a.command room ∙ sym x.1 }
