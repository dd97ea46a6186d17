-- `text::names_prefix` meets its contract.
-- Assumes nothing.
use mathlib.Core.Path.{sym, ◌∙◌, ap}
use Prim.Native.Nat.{◌<◌}
use lib.ListN.{length}
use native.Mathlib.Omega.{arith}
use Rattle.layout.specs.Layout.{session_of, table_of}
use Rattle.commands.specs.Run.{role_at}
use Rattle.tokens.specs.Through.{is_prefix}
use Rattle.tokens.specs.ThroughLaws.{unnamed, role_looked_up}
use Rattle.tokens.proofs.text.names_prefix.Goals as goal

pub returns-then-w-eq0 : goal.returns-then-w-eq0
returns-then-w-eq0 c = sym (unnamed _ _ c.if-w-eq0.true)

pub returns-in-Some : goal.returns-in-Some
returns-in-Some c = let a = c.args in
    let some : 0 < length a.w.now = omega (arith, c.if-w-eq0.false) in
    let looked = role_looked_up (table_of (session_of a.words.now)) a.w.now some in
    c.is_prefix.ensures
    ∙ ap is_prefix (c.from.ensures ∙ ap role_at (sym c.in-Some.is ∙ c.command_of_word.ensures) ∙ sym looked)

pub returns-in-None : goal.returns-in-None
returns-in-None c = let a = c.args in
    let some : 0 < length a.w.now = omega (arith, c.if-w-eq0.false) in
    let looked = role_looked_up (table_of (session_of a.words.now)) a.w.now some in
    ap is_prefix (ap role_at (sym c.in-None.is ∙ c.command_of_word.ensures) ∙ sym looked)
