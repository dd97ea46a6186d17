-- `token::covering_token` meets its contract. The loop's invariant: the tokens before the one in hand are passed, and do not cover the place.
-- The measure is what stands behind the token. Assumes nothing.
use mathlib.Core.Path.{sym, ap, ◌∙◌, subst}
use native.Mathlib.Omega.{arith}
use Rattle.scanner.specs.StepLaws.{Passed, passed_none, passed_on, passed_less, passed_found}
use Rattle.scanner.specs.CoveringLaws.{covering_end}
use Rattle.scanner.specs.declared.token.Scanned.{Scanned}
use Rattle.scanner.proofs.token.covering_token.Goals as goal

pub returns-then-line-at : goal.returns-then-line-at
returns-then-line-at c = c.end_token.ensures ∙ sym (covering_end _ _ c.if-line-at.true)

pub loop-here-init : goal.loop-here-init
loop-here-init c = let a = c.args in
    subst (Passed a.line.now a.at) (sym c.lead_step-here.ensures) (passed_none a.line.now a.at c.if-line-at.false)

pub loop-here-smaller : goal.loop-here-smaller
loop-here-smaller c = let a = c.args in
    let q = passed_less a.line.now a.at c.if-line-at.false c.loop-here.here c.loop-here.invariant c.loop-here-test.true in
    let e = ap (λ (x : Scanned). x.token.stop) c.step_with-here.ensures in
    omega (arith, q, e, c.loop-here-test.true, c.if-line-at.false)

pub loop-here-preserved : goal.loop-here-preserved
loop-here-preserved c = let a = c.args in
    subst (Passed a.line.now a.at) (sym c.step_with-here.ensures)
    (passed_on a.line.now a.at c.if-line-at.false c.loop-here.here c.loop-here.invariant c.loop-here-test.true)

pub returns : goal.returns
returns c = let a = c.args in
    passed_found a.line.now a.at c.if-line-at.false c.loop-here.here c.loop-here.invariant c.loop-here-test.false
