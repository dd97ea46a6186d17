-- `block::blocks_end` meets its contract. The invariant: what the two bytes at `at` tell, those at t tell.
-- Assumes nothing.
use Rattle.std.proofs.Common.{◌-◌, length, arith}
use Rattle.utf8.specs.Utf8Blocks.{place_run, place_to}
use Rattle.utf8.proofs.block.blocks_end.Goals as goal

pub loop-t-preserved : goal.loop-t-preserved
loop-t-preserved c = let a = c.args in
    (omega (arith, c.loop-t.invariant.0), λ i p. place_run a.s.now i c.loop-t.t 32 (omega (arith, c.loop-t.invariant.0)) (c.all_joined.ensures c.if-not-all_joined.false) (c.loop-t.invariant.1 i p))

pub returns : goal.returns
returns c = let a = c.args in
    let n = length a.s.now in
    λ i p.
    c.last_start-2.ensures i
    (place_to a.s.now i c.loop-t.t (n - 32 - 2) 32 (n - 2) (omega (arith, c.loop-t.invariant.0)) (omega (arith, c.loop-t.invariant.0))
    (omega (arith, c.loop-t.invariant.0)) (omega (arith, c.requires))
    (c.all_joined-2.ensures c.if-not-all_joined-2.false)
    (c.loop-t.invariant.1 i p))
