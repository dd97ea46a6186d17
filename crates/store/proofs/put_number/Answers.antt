-- `store::put_number` meets its contract. The invariant: the groups of what is left, written from here on, give the store asked for.
-- Assumes nothing.
use mathlib.Core.Path.{refl}
use mathlib.Core.List.{[]}
use native.Mathlib.Omega.{arith}
use Rattle.store.specs.SevensLaws.{encode_small, encode_more, encode_some}
use Rattle.store.specs.Splice.{writing_start, writing_byte, writing_end}
use Rattle.store.proofs.put_number.Goals as goal

pub loop-left-init : goal.loop-left-init
loop-left-init c = (writing_start _ _ _, omega arith)

pub bounds-store-i : goal.bounds-store-i
bounds-store-i c = let w = c.loop-left.invariant.0 in omega (arith, encode_some c.loop-left.left, w.count, w.size, c.requires.fits)

pub overflow_add-i : goal.overflow_add-i
overflow_add-i c = let w = c.loop-left.invariant.0 in omega (arith, encode_some c.loop-left.left, w.count, w.size, c.requires.fits)

pub loop-left-preserved : goal.loop-left-preserved
loop-left-preserved c = (writing_byte _ _ (encode_more c.loop-left.left c.loop-left-test.true) c.loop-left.invariant.0, omega arith)

pub bounds-store-i-2 : goal.bounds-store-i-2
bounds-store-i-2 c = let w = c.loop-left.invariant.0 in omega (arith, encode_some c.loop-left.left, w.count, w.size, c.requires.fits)

pub overflow_add-result : goal.overflow_add-result
overflow_add-result c = let w = c.loop-left.invariant.0 in omega (arith, encode_some c.loop-left.left, w.count, w.size, c.requires.fits)

pub shape_of-store : goal.shape_of-store
shape_of-store c = (writing_byte _ [] (encode_small c.loop-left.left c.loop-left-test.false) c.loop-left.invariant.0).size

pub returns : goal.returns
returns c = writing_end refl (writing_byte _ [] (encode_small c.loop-left.left c.loop-left-test.false) c.loop-left.invariant.0)
