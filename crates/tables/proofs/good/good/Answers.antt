-- `good::good` meets its contract: bytes that are too few are no table.
-- Assumes nothing.
use Rattle.std.proofs.Common.{sym, arith}
use Rattle.tables.specs.FrameLaws.{framed_not, test_unframed}
use Rattle.tables.proofs.good.good.Goals as goal

pub returns-in_default : goal.returns-in_default
returns-in_default c = let a = c.args in
    sym (test_unframed a.at a.most a.b.now (framed_not a.at a.most a.b.now (λ f. omega (arith, f.size, rw c.in_default.is at c.new.ensures.short))))
