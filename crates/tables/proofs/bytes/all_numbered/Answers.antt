-- `bytes::all_numbered` meets its contract.
-- Assumes nothing.
use Rattle.std.proofs.Common.{arith}
use Rattle.tables.specs.AllLaws.{numbered_more}
use Rattle.tables.proofs.bytes.all_numbered.Goals as goal

pub loop-i-preserved : goal.loop-i-preserved
loop-i-preserved g c = let l = c.loop-i in
    rw c.max-m.ensures (numbered_more g.C.Class.rule l.m c.number.result l.i c.args.s.now (omega arith) c.number.ensures l.invariant)
