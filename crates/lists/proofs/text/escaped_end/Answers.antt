-- `text::escaped_end` meets its contract. The invariant: at i stands a backslash, and the text from i on ends where the text from the start does.
-- Assumes nothing.
use mathlib.Core.Path.{◌∙◌, sym, ap}
use native.Mathlib.Omega.{arith}
use Rattle.scan.specs.RunLaws.{run_at_le}
use Rattle.lists.specs.Text.{escape_of, own, text_end_at}
use Rattle.lists.specs.TextLaws.{end_run, end_told_lem, end_escape, end_bad, escape_inside}
use Rattle.lists.proofs.text.escaped_end.Goals as goal

pub returns-in_err-escape_of : goal.returns-in_err-escape_of
returns-in_err-escape_of c = let b = c.byte_at.ensures in
    let e = sym (c.escape_of.ensures ∙ ap (escape_of c.args.quoted) b) ∙ c.in_err-escape_of.was in
    c.from_residual.ensures ∙ sym (c.loop-e.invariant.1 ∙ end_bad c.args.quoted c.args.s.now c.loop-e.i c.loop-e.invariant.0 e)

pub returns-then-b-ne92 : goal.returns-then-b-ne92
returns-then-b-ne92 c = c.stop_at.ensures ∙ end_told_lem _ _ _ _ _ c.own_end-j.ensures c.byte_at-b.ensures c.if-b-ne92.true
    ∙ sym (c.loop-e.invariant.1 ∙ end_escape _ _ _ c.loop-e.invariant.0 _ (sym (c.escape_of.ensures ∙ ap (escape_of _) c.byte_at.ensures) ∙ c.in_ok-escape_of.was) ∙ c.past_escapes-e.ensures.passed.ends)

pub loop-e-smaller : goal.loop-e-smaller
loop-e-smaller c =
    let e = c.past_escapes-e in
    let next = escape_inside _ c.args.s.now _ _ (sym (c.escape_of.ensures ∙ ap (escape_of _) c.byte_at.ensures) ∙ c.in_ok-escape_of.was) in
    omega (arith, next, e.ensures.passed.later, c.own_end-j.ensures, run_at_le (own c.args.quoted) c.args.s.now e.result.at)

pub loop-e-preserved : goal.loop-e-preserved
loop-e-preserved c = (sym c.byte_at-b.ensures ∙ c.if-b-ne92.false, c.loop-e.invariant.1 ∙ end_escape _ _ _ c.loop-e.invariant.0 _ (sym (c.escape_of.ensures ∙ ap (escape_of _) c.byte_at.ensures) ∙ c.in_ok-escape_of.was) ∙ c.past_escapes-e.ensures.passed.ends ∙ end_run _ _ _ ∙ ap (text_end_at _ _) (sym c.own_end-j.ensures))
