-- `order::Pair::ascends` meets its contract.
-- Assumes nothing.
use Rattle.std.proofs.Common.{sym, arith}
use Rattle.tables.specs.OrderLaws.{tails_less, tails_more}
use Rattle.tables.proofs.order.Pair.ascends.Goals as goal

pub returns-then-x-y : goal.returns-then-x-y
returns-then-x-y c = let a = c.args.self.now in
    sym (tails_less a.b.now a.e a.m a.typed (omega arith) (omega arith) (omega arith)
    (omega (arith, c.requires.x_value, c.requires.y_value)))

pub returns-then-y-x : goal.returns-then-y-x
returns-then-y-x c = let a = c.args.self.now in
    sym (tails_more a.b.now a.e a.m a.typed (omega arith) (omega arith) (omega arith)
    (omega (arith, c.requires.x_value, c.requires.y_value)))
