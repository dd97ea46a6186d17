-- `order::Pair::rest_ascends` meets its contract.
-- Assumes nothing.
use Rattle.std.proofs.Common.{◌≡◌, ◌+◌, ◌-◌, drop, sym, ◌∙◌, arith}
use Rattle.scan.specs.Scan.{part_of}
use Rattle.tables.specs.OrderLaws.{rest_none, rest_tells, rest_same, rest_soon, rest_first}
use Rattle.tables.proofs.order.Pair.rest_ascends.Goals as goal
use Rattle.tables.proofs.order.Pair.rest_ascends.Goals.{then-m-gt16+else-x-y, else-m-gt16}

pub returns-then-m-le8 : goal.returns-then-m-le8
returns-then-m-le8 c = let a = c.args.self.now in
    sym (rest_none a.b.now a.e a.m a.typed (omega arith) (omega arith) (omega arith)
    (omega arith) c.requires)

pub returns-then-x-y : goal.returns-then-x-y
returns-then-x-y c = let a = c.args.self.now in
    let n = c.if-x-y.true in
    rw (c.low_eight-x.ensures, c.low_eight-y.ensures)
    (sym (rest_tells a.b.now a.e a.m a.typed (omega arith) (omega arith) (omega arith) (omega arith)
    c.requires (λ e. n (c.low_eight-x.ensures ∙ e ∙ sym c.low_eight-y.ensures))))

pub returns : goal.returns
returns c = let a = c.args.self.now in
    let b = a.b.now in
    let alike = c.requires in
    let s : drop 8 (part_of b (a.e - a.m) a.e) ≡ drop 8 (part_of b a.e (a.e + a.m)) =
    elim c.if-m-gt16.branch [
      | then-m-gt16+else-x-y w ↦ rest_same b a.e a.m a.typed (omega arith) (omega arith) (omega arith)
          w.if-m-gt16.true alike (omega arith) (sym w.low_eight-x.ensures ∙ w.if-x-y.false ∙ w.low_eight-y.ensures)
      | else-m-gt16 w ↦ rest_soon b a.e a.m a.typed (omega arith) (omega arith) (omega arith) w.if-m-gt16.false alike
    ] in
    rw (c.low_eight.ensures, c.low_eight-2.ensures)
    (sym (rest_first b a.e a.m a.typed (omega arith) (omega arith) (omega arith) (omega arith) s))
