-- `text::command_name` meets its contract.
-- Assumes nothing.
use mathlib.Core.Path.{◌≡◌, sym, ◌∙◌, ap}
use borrow.Author.Tests.{le-leb, lt-leb}
use Rattle.spellings.specs.Spellings.{word_of}
use Rattle.pagyolint.specs.Texts.{name_of, name_no, name_count, name_store}
use Rattle.pagyolint.proofs.text.command_name.Goals as goal

pub returns-then-c : goal.returns-then-c
unfolding name_no name_count name_store
returns-then-c c = let over = lt-leb _ _ c.if-c.true in
    record { refusal = sym (rw over); count = sym (rw over); store = sym (rw over) }

pub returns : goal.returns
unfolding name_of name_no name_count name_store
returns c = let a = c.args in
    let good = le-leb _ _ c.if-c.false in
    let e : c.word_of.result.now ≡ name_of a.c = c.word_of.ensures ∙ ap (λ rs. word_of rs a.c) c.names-rows.ensures in
    record { refusal = rw good (rw e at c.copy.ensures.refusal); count = rw good (rw e at c.copy.ensures.count); store = rw good (rw e at c.copy.ensures.store) }
