-- `frame::framed` meets its contract: a table that is not all there has no frame.
-- Assumes nothing.
use Rattle.std.proofs.Common.{sym, arith}
use Rattle.tables.specs.FrameLaws.{framed_not}
use Rattle.tables.proofs.frame.framed.Goals as goal

pub returns-in-None : goal.returns-in-None
returns-in-None c = let a = c.args in
    sym (framed_not a.at a.most a.b.now (λ f. omega (arith, f.size, rw c.in-None.is at c.new.ensures.short)))
