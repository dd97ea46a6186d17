-- `extokens::print_tokens` is safe and ends: before the line's end each step moves on.
-- Assumes nothing.
use Rattle.std.proofs.Common.{arith, sym, ap, subst}
use Rattle.scanner.specs.StepLaws.{Standing, standing_first, standing_next, standing_moves}
use Rattle.scanner.specs.declared.token.Scanned.{Scanned}
use Rattle.extokens.proofs.print_tokens.Goals as goal

pub loop-here-init : goal.loop-here-init
loop-here-init g c = let s = c.args.line.now in
    subst (Standing s) (sym c.step-here.ensures) (standing_first s)

pub loop-here-smaller : goal.loop-here-smaller
loop-here-smaller g c = let s = c.args.line.now in
    let q = standing_moves s c.loop-here.here c.loop-here.invariant c.loop-here-test.true in
    let e = ap (λ (r : Scanned). r.token.start) c.step-here-in-loop-here.ensures in
    omega (arith, q, e, c.loop-here-test.true)

pub loop-here-preserved : goal.loop-here-preserved
loop-here-preserved g c = let s = c.args.line.now in
    subst (Standing s) (sym c.step-here-in-loop-here.ensures) (standing_next s c.loop-here.here c.loop-here.invariant)
