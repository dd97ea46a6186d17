-- `spellings::is_same` meets its contract. The invariant: the words are the same where what is left of them is.
-- Assumes nothing.
use mathlib.Core.Path.{sym, ◌∙◌}
use Prim.Native.Nat.{◌≤◌, ◌<◌}
use native.Mathlib.Omega.{arith}
use lib.ListN.{length}
use borrow.Author.Tests.{eq-eqb, ne_eqb}
use Rattle.spellings.specs.SpellingsLaws.{same_lengths, same_step, same_end}
use Rattle.spellings.proofs.is_same.Goals as goal

pub returns-then-v-w : goal.returns-then-v-w
returns-then-v-w c = let a = c.args in sym (same_lengths a.v.now a.w.now c.if-v-w.true)

pub returns-then-v-i : goal.returns-then-v-i
returns-then-v-i c = let a = c.args in
    let i = c.loop-i.i in
    let k : i < length a.w.now = omega (arith, c.loop-i.invariant.2, c.loop-i-test.true) in
    let e = same_step a.v.now a.w.now i c.loop-i-test.true k in
    sym (sym c.loop-i.invariant.0 ∙ rw (ne_eqb _ _ c.if-v-i.true) at e)

pub loop-i-preserved : goal.loop-i-preserved
loop-i-preserved c = let a = c.args in
    let i = c.loop-i.i in
    let k : i < length a.w.now = omega (arith, c.loop-i.invariant.2, c.loop-i-test.true) in
    let e = same_step a.v.now a.w.now i c.loop-i-test.true k in
    (sym (rw (eq-eqb _ _ c.if-v-i.false) at e) ∙ c.loop-i.invariant.0, omega arith, c.loop-i.invariant.2)

pub returns : goal.returns
returns c = let a = c.args in
    let i = c.loop-i.i in
    let k : length a.w.now ≤ i = omega (arith, c.loop-i.invariant.2, c.loop-i-test.false) in
    sym (same_end a.v.now a.w.now i c.loop-i-test.false k) ∙ c.loop-i.invariant.0
