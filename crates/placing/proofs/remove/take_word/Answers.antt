-- `remove::take_word` meets its contract: the only row is taken out by its number alone, one of several by what stands behind it.
-- Assumes nothing.
use mathlib.Core.Path.{◌∙◌}
use Prim.Native.Nat.{◌+◌}
use native.Mathlib.Omega.{arith}
use Rattle.limits.specs.Limits.{word_limit}
use Rattle.scan.specs.Scan.{byte_at}
use Rattle.tables.specs.FrameLaws.{framed_told}
use Rattle.tables.specs.Seat.{seated_row, seated_end, seated_size, seated_few, seated_last}
use Rattle.placing.specs.RemoveLaws.{seated_only, seated_one}
use Rattle.placing.proofs.remove.take_word.Goals as goal

pub returns-then-n-eq1 : goal.returns-then-n-eq1
returns-then-n-eq1 c = seated_only c.requires c.if-n-eq1.true

pub invariant_of-end : goal.invariant_of-end
invariant_of-end c = let a = c.args in
    record { whole = (framed_told a.at a.most a.b.now c.requires.frame).size }

pub overflow_add-o-3 : goal.overflow_add-o-3
overflow_add-o-3 c = omega (arith, seated_few c.requires)

pub take_out-requires : goal.take_out-requires
take_out-requires c = let a = c.args in
    let s = c.requires in
    let few = (framed_told a.at a.most a.b.now s.frame).few in
    let e = c.end-e.ensures in record { m_bound = omega (arith, s.short); i_lt_o = omega (arith, seated_row s); o_le_p = omega (arith, s.place, few); m_bound_2 = omega (arith, e, seated_end s); e_in_bounds = omega (arith, e, seated_last s, seated_size s); at_nonzero = s.some; nonzero = s.counted }

pub returns : goal.returns
returns c = let a = c.args in
    let s = c.requires in
    let o = a.at + 1 + word_limit in
    let e = c.end-e in
    c.take_out.ensures
    ∙ seated_one s (o + a.row) (o + byte_at a.b.now a.at) e.result (omega arith) (omega arith) e.ensures (omega (arith, s.some, c.if-n-eq1.false))
