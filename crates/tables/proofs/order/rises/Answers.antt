-- `order::rises` meets its contract. The invariant: the words up to e ascend, and x is the last bytes of the one that ends there.
-- Assumes nothing.
use Rattle.std.proofs.Common.{ℕ, ◌+◌, sym, ap, ◌∙◌, arith}
use Rattle.tables.specs.Table.{repeated}
use Rattle.tables.specs.TailLaws.{hidden_most}
use Rattle.tables.specs.Walk.{in_order}
use Rattle.tables.specs.OrderLaws.{risen_start, risen_end, risen_next, risen_not}
use Rattle.tables.specs.Tail.{tail_of}
use Rattle.tables.proofs.order.rises.Goals as goal

pub returns-then-c-eq0 : goal.returns-then-c-eq0
unfolding in_order repeated
returns-then-c-eq0 c = rw c.if-c-eq0.true

pub tail-x-requires : goal.tail-x-requires
tail-x-requires c = omega (arith, c.hidden-h.ensures, hidden_most c.args.m (omega arith))

pub loop-e-init : goal.loop-e-init
loop-e-init c = let a = c.args in (
  risen_start a.b.now a.q a.m a.c (omega arith) (omega arith) (omega arith),
  c.tail-x.ensures ∙ ap (λ (h : ℕ). tail_of a.b.now (a.q + a.m) h) c.hidden-h.ensures,
)

pub tail-y-requires : goal.tail-y-requires
tail-y-requires c = omega (arith, c.hidden-h.ensures, hidden_most c.args.m (omega arith))

pub returns-then-not-ascends : goal.returns-then-not-ascends
returns-then-not-ascends c = sym (risen_not c.loop-e.invariant.0 (omega arith) (sym c.ascends.ensures ∙ c.if-not-ascends.true))

pub loop-e-preserved : goal.loop-e-preserved
loop-e-preserved c = let a = c.args in
    let l = c.loop-e in (
      risen_next l.invariant.0 (omega arith) (sym c.ascends.ensures ∙ c.if-not-ascends.false),
      c.tail-y.ensures ∙ ap (λ (h : ℕ). tail_of a.b.now (l.e + a.m) h) c.hidden-h.ensures,
    )

pub returns : goal.returns
returns c = sym (risen_end c.loop-e.invariant.0 (omega arith))
