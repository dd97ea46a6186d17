-- `text::text_end` meets its contract.
-- Assumes nothing.
use mathlib.Core.Path.{◌∙◌, sym, ap}
use mathlib.Core.Bool.{true, false}
use Rattle.lists.specs.Text.{text_end_at}
use Rattle.lists.specs.TextLaws.{end_run, end_told_lem}
use Rattle.lists.proofs.text.text_end.Goals as goal

pub returns-then-b-ne92 : goal.returns-then-b-ne92
returns-then-b-ne92 c = rw c.if-quoted.true (c.stop_at.ensures ∙ end_told_lem true c.args.s.now c.args.at _ _ c.own_end-j.ensures
    c.byte_at-b.ensures c.if-b-ne92.true)

pub returns-then-quoted : goal.returns-then-quoted
returns-then-quoted c = rw c.if-quoted.true (c.escaped_end.ensures ∙ ap (text_end_at true c.args.s.now) c.own_end-j.ensures
    ∙ sym (end_run true c.args.s.now c.args.at))

pub returns-then-b-ne92-2 : goal.returns-then-b-ne92-2
returns-then-b-ne92-2 c = rw c.if-quoted.false (c.stop_at-then-b-ne92-2.ensures ∙ end_told_lem false c.args.s.now c.args.at _ _ c.own_end-j-2.ensures
    c.byte_at-b-2.ensures c.if-b-ne92-2.true)

pub returns : goal.returns
returns c = rw c.if-quoted.false (c.escaped_end-2.ensures ∙ ap (text_end_at false c.args.s.now) c.own_end-j-2.ensures
    ∙ sym (end_run false c.args.s.now c.args.at))
