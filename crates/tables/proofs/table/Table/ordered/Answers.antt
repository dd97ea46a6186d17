-- `table::Table::ordered` meets its contract. The invariant: the words up to q ascend, are shorter than m, and so many are left.
-- Assumes nothing.
use Rattle.std.proofs.Common.{sym, ◌∙◌, arith}
use Rattle.tables.specs.FrameLaws.{framed_told}
use Rattle.tables.specs.OrderLaws.{ordered_start, ordered_end, ordered_short, ordered_few, ordered_fits, ordered_not, ordered_next}
use Rattle.tables.proofs.table.Table.ordered.Goals as goal

pub overflow_add-q-3 : goal.overflow_add-q-3
overflow_add-q-3 c = omega (arith, (framed_told _ _ _ c.requires.b_value).size)

pub loop-left-init : goal.loop-left-init
loop-left-init c = let a = c.args.self.now in
    rw c.count-left.ensures.value (ordered_start a.b.now a.at a.most _ (framed_told _ _ _ c.requires.b_value) c.requires.at_nonzero (omega arith))

pub count_of-c-requires : goal.count_of-c-requires
count_of-c-requires c = ordered_short c.loop-left.invariant (omega arith)

pub rises-requires : goal.rises-requires
rises-requires c = let a = c.args.self.now in
    let l = c.loop-left in
    let o = l.invariant in record { le_q = omega (arith, o.room); le_m = o.some; m_le_word_limit = ordered_short o (omega arith); m_in_bounds = rw c.count_of-c.ensures.value (ordered_fits o (omega arith)) }

pub returns-then-not-rises : goal.returns-then-not-rises
returns-then-not-rises c = ordered_not c.loop-left.invariant (omega arith) (rw c.count_of-c.ensures.value at (sym c.rises.ensures ∙ c.if-not-rises.true))

pub overflow_mul-q : goal.overflow_mul-q
overflow_mul-q c = rw c.count_of-c.ensures.value (omega (arith, ordered_fits c.loop-left.invariant (omega arith)))

pub overflow_add-q-in-loop-left : goal.overflow_add-q-in-loop-left
overflow_add-q-in-loop-left c = rw c.count_of-c.ensures.value (omega (arith, ordered_fits c.loop-left.invariant (omega arith)))

pub overflow_sub-left : goal.overflow_sub-left
overflow_sub-left c = omega (arith, c.count_of-c.ensures.value, ordered_few c.loop-left.invariant (omega arith))

pub overflow_add-m : goal.overflow_add-m
overflow_add-m c = omega (arith, ordered_short c.loop-left.invariant (omega arith))

pub loop-left-smaller : goal.loop-left-smaller
loop-left-smaller c = omega (arith, ordered_short c.loop-left.invariant (omega arith))

pub loop-left-preserved : goal.loop-left-preserved
loop-left-preserved c = rw c.count_of-c.ensures.value (ordered_next c.loop-left.invariant (omega arith) (rw c.count_of-c.ensures.value at (sym c.rises.ensures ∙ c.if-not-rises.false)))

pub returns : goal.returns
returns c = ordered_end c.loop-left.invariant (omega arith)
