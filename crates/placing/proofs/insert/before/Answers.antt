-- `insert::before` meets its contract. The invariant: the word at q and w are alike from k on.
-- Assumes nothing.
use native.Mathlib.Omega.{arith}
use Rattle.placing.specs.ChangeLaws.{before_told, before_on}
use Rattle.placing.proofs.insert.before.Goals as goal

pub returns-then-x-y : goal.returns-then-x-y
returns-then-x-y c = let a = c.args in
    let l = c.loop-k in
    before_told a.b.now a.q a.w.now c.requires l.k c.loop-k-test.true l.invariant.0 l.invariant.1
    (λ i. omega (arith, c.type_inv.b i)) (λ i. omega (arith, c.type_inv.w i)) c.if-x-y.true

pub loop-k-preserved : goal.loop-k-preserved
loop-k-preserved c = let a = c.args in
    let l = c.loop-k in
    (omega arith, before_on a.b.now a.q a.w.now c.requires l.k c.loop-k-test.true l.invariant.0 l.invariant.1 c.if-x-y.false)
