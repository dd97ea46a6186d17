-- `insert::rank` meets its contract. The invariant: j words come before w, and the others are left from p on.
-- Assumes nothing.
use mathlib.Core.Path.{sym, ◌∙◌}
use Prim.Native.Nat.{◌+◌, ◌≤◌}
use native.Mathlib.Omega.{arith}
use lib.ListN.{length, drop}
use Rattle.placing.specs.ChangeLaws.{rank_on, rank_stop, rank_none, rows_fit}
use Rattle.placing.proofs.insert.rank.Goals as goal

pub returns-then-not-before : goal.returns-then-not-before
returns-then-not-before c = let a = c.args in
    let l = c.loop-j in
    let h = c.loop-j-test.true in
    let f : l.p + length a.w.now ≤ length a.b.now = omega (arith, c.requires, l.invariant.1, rows_fit l.j a.c (length a.w.now) h) in
    let e = rank_stop a.b.now l.p a.w.now f a.c l.j h (sym c.before-in-loop-j.ensures ∙ c.if-not-before.true) in
    omega (arith, l.invariant.2, e)

pub loop-j-preserved : goal.loop-j-preserved
loop-j-preserved c = let a = c.args in
    let l = c.loop-j in
    let h = c.loop-j-test.true in
    let f : l.p + length a.w.now ≤ length a.b.now = omega (arith, c.requires, l.invariant.1, rows_fit l.j a.c (length a.w.now) h) in
    let e = rank_on a.b.now l.p a.w.now f a.c l.j h (sym c.before-in-loop-j.ensures ∙ c.if-not-before.false) in
    (omega arith, omega (arith, l.invariant.1), omega (arith, l.invariant.2, e))

pub returns : goal.returns
returns c = let a = c.args in
    let l = c.loop-j in
    omega (arith, l.invariant.0, l.invariant.2, c.loop-j-test.false, rank_none a.c l.j a.w.now (drop l.p a.b.now) c.loop-j-test.false)
