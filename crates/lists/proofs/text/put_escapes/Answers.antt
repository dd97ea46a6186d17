-- `text::put_escapes` meets its contract. The invariant is the contract's first two parts, at i and n.
-- Assumes nothing.
use mathlib.Core.Path.{◌∙◌, sym, ap}
use native.Mathlib.Omega.{arith}
use lib.ListN.{length}
use Rattle.store.specs.Splice.{writing_byte}
use Rattle.lists.specs.TextLaws.{bytes_escape, stuck_last}
use Rattle.lists.proofs.text.put_escapes.Goals as goal

pub bounds-store-n : goal.bounds-store-n
bounds-store-n c =
    let escaped = bytes_escape c.args.quoted c.args.s.now c.loop-i.i c.if-s-i-ne92.false _ (sym c.escape_of.ensures ∙ c.in-Some.is) in
    let w = c.loop-i.invariant.0 in
    omega (arith, w.count, w.size, c.requires.fits, ap length escaped)

pub loop-i-preserved : goal.loop-i-preserved
loop-i-preserved c = (writing_byte _ _ (bytes_escape c.args.quoted c.args.s.now c.loop-i.i c.if-s-i-ne92.false _ (sym c.escape_of.ensures ∙ c.in-Some.is)) c.loop-i.invariant.0, omega (arith, c.loop-i.invariant.1))

pub returns : goal.returns
returns c = record {
  writes = c.loop-i.invariant.0;
  later = c.loop-i.invariant.1;
  stuck = stuck_last c.args.quoted c.args.s.now c.loop-i.i (omega (arith, c.loop-i-test.false, c.last_of-last.ensures));
}
