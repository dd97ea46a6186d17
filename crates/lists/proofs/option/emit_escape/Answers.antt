-- `option::emit_escape` meets its contract.
-- Assumes nothing.
use mathlib.Core.Path.{◌∙◌, sym, ap}
use native.Mathlib.Omega.{arith}
use Rattle.lists.specs.Text.{escape_of}
use Rattle.lists.specs.TextLaws.{escape_inside, bytes_escape, bytes_bad}
use Rattle.lists.proofs.option.emit_escape.Goals as goal

pub returns : goal.returns
returns c = let e = sym (c.escape_of.ensures ∙ ap (escape_of c.args.quoted) c.byte_at.ensures) ∙ c.in_ok-c.was in
    let h = escape_inside _ c.args.s.now _ _ e in
    (bytes_escape _ _ _ c.requires _ e, omega arith, omega arith)

pub returns-in_err-c : goal.returns-in_err-c
returns-in_err-c c = let e = sym (c.escape_of.ensures ∙ ap (escape_of c.args.quoted) c.byte_at.ensures) ∙ c.in_err-c.was in
    rw c.from_residual.ensures (bytes_bad _ _ _ c.requires e)
