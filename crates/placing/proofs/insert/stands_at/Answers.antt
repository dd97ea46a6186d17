-- `insert::stands_at` meets its contract. The invariant: the words are the same if they are from k on.
-- Assumes nothing.
use mathlib.Core.Path.{sym, ◌∙◌}
use native.Mathlib.Omega.{arith}
use Rattle.placing.specs.ChangeLaws.{same_on, same_not, same_all}
use Rattle.placing.proofs.insert.stands_at.Goals as goal

pub returns-then-b-q : goal.returns-then-b-q
returns-then-b-q c = let a = c.args in
    let l = c.loop-k in
    sym (l.invariant.1 ∙ same_not a.b.now a.q a.w.now c.requires l.k c.loop-k-test.true c.if-b-q.true)

pub loop-k-preserved : goal.loop-k-preserved
loop-k-preserved c = let a = c.args in
    let l = c.loop-k in
    (omega arith, l.invariant.1 ∙ same_on a.b.now a.q a.w.now c.requires l.k c.loop-k-test.true c.if-b-q.false)

pub returns : goal.returns
returns c = let a = c.args in
    let l = c.loop-k in
    sym (l.invariant.1 ∙ same_all a.b.now a.q a.w.now c.requires l.k (omega arith))
