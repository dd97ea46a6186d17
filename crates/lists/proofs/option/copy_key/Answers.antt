-- `option::copy_key` meets its contract. The invariant: the key that is left at i is still to be written, and what follows it is the same.
-- Assumes nothing.
use mathlib.Core.Path.{◌∙◌, sym, ap}
use native.Mathlib.Omega.{arith}
use lib.ListN.{length}
use Rattle.store.specs.Splice.{writing_byte, writing_end}
use Rattle.lists.specs.OptionLaws.{key_none, after_none, key_cut, after_cut, key_more, after_more}
use Rattle.lists.proofs.option.copy_key.Goals as goal

pub returns-in_default : goal.returns-in_default
returns-in_default c = let e = rw c.in_default.is at c.emit_at.ensures in record { put = writing_end (key_none e) c.loop-b.invariant.0; left = after_none e ∙ sym c.loop-b.invariant.1 }

pub returns-then-b-eq61 : goal.returns-then-b-eq61
returns-then-b-eq61 c = let e = (rw c.in-Some.is at c.emit_at.ensures).0 in record { put = writing_end (key_cut e c.if-b-eq61.true) c.loop-b.invariant.0; left = after_cut e c.if-b-eq61.true ∙ sym c.loop-b.invariant.1 }

pub bounds-store-n : goal.bounds-store-n
bounds-store-n c = let e = (rw c.in-Some.is at c.emit_at.ensures).0 in
    let w = c.loop-b.invariant.0 in
    omega (arith, w.count, w.size, c.requires.fits, ap length (key_more e c.if-b-eq61.false))

pub loop-b-preserved : goal.loop-b-preserved
loop-b-preserved c = let e = (rw c.in-Some.is at c.emit_at.ensures).0 in
    (writing_byte _ _ (key_more e c.if-b-eq61.false) c.loop-b.invariant.0, c.loop-b.invariant.1 ∙ after_more e c.if-b-eq61.false)
