-- `text::past_escapes` meets its contract. The invariant is the contract's first part, at i and n.
-- Assumes nothing.
use mathlib.Core.Path.{◌∙◌, sym}
use native.Mathlib.Omega.{arith}
use Rattle.lists.specs.TextLaws.{escaped_on, stuck_last, bytes_length}
use Rattle.lists.proofs.text.past_escapes.Goals as goal

pub overflow_add-n : goal.overflow_add-n
overflow_add-n c =
    let e = sym c.escape_of.ensures ∙ c.in-Some.is in
    let passed = escaped_on _ _ _ _ _ _ c.loop-i.invariant c.if-s-i-ne92.false e in
    omega (arith, passed.count, bytes_length c.args.quoted c.args.s.now c.args.at)

pub loop-i-preserved : goal.loop-i-preserved
loop-i-preserved c =
    let e = sym c.escape_of.ensures ∙ c.in-Some.is in
    escaped_on _ _ _ _ _ _ c.loop-i.invariant c.if-s-i-ne92.false e

pub returns : goal.returns
returns c = record {
  passed = c.loop-i.invariant;
  stuck = stuck_last c.args.quoted c.args.s.now c.loop-i.i
      (omega (arith, c.loop-i-test.false, c.last_of-last.ensures));
}
