-- `insert::spot_of` meets its contract.
-- Assumes nothing.
use native.Mathlib.Omega.{arith}
use Rattle.tables.specs.FrameLaws.{framed_told}
use Rattle.tables.specs.FindLaws.{group_bytes}
use Rattle.placing.specs.InsertLaws.{spot_few, spot_fits, spot_more, located}
use Rattle.placing.proofs.insert.spot_of.Goals as goal

pub invariant_of-t : goal.invariant_of-t
invariant_of-t c = let a = c.args in
    record { whole = (framed_told a.at a.most a.b.now c.requires.framed).size }

pub start_of-s-requires : goal.start_of-s-requires
start_of-s-requires c = let a = c.args in
    let p = c.requires in
    record { le_m = p.one; m_le_word_limit = p.short }

pub rank-j-requires : goal.rank-j-requires
rank-j-requires c = let a = c.args in
    let p = c.requires in
    let f = group_bytes a.at a.most a.b.now a.w.now p.one p.short (framed_told a.at a.most a.b.now p.framed).size p.framed p.some in
    rw c.count_of-c.ensures.value (omega (arith, c.start_of-s.ensures.place, f))

pub overflow_add-row : goal.overflow_add-row
overflow_add-row c = let a = c.args in
    let n = c.start_of-s in
    omega (arith, spot_few a.at a.most a.b.now a.w.now c.requires n.result.place c.rank-j.result n.ensures.place (rw c.count_of-c.ensures.value at c.rank-j.ensures) n.result.rows n.ensures.rows)

pub overflow_mul-place : goal.overflow_mul-place
overflow_mul-place c = let a = c.args in
    let n = c.start_of-s in
    omega (arith, spot_fits a.at a.most a.b.now a.w.now c.requires n.result.place c.rank-j.result n.ensures.place (rw c.count_of-c.ensures.value at c.rank-j.ensures))

pub overflow_add-place : goal.overflow_add-place
overflow_add-place c = let a = c.args in
    let n = c.start_of-s in
    omega (arith, spot_fits a.at a.most a.b.now a.w.now c.requires n.result.place c.rank-j.result n.ensures.place (rw c.count_of-c.ensures.value at c.rank-j.ensures))

pub holds-there-requires : goal.holds-there-requires
holds-there-requires c = let a = c.args in
    let n = c.start_of-s in
    rw c.count_of-c.ensures.value (spot_more a.at a.most a.b.now a.w.now c.requires n.result.place c.rank-j.result n.ensures.place (rw c.count_of-c.ensures.value at c.rank-j.ensures))

pub returns : goal.returns
returns c = let a = c.args in
    let n = c.start_of-s in
    located a.at a.most a.b.now a.w.now c.requires (λ i. omega (arith, c.type_inv.b i))
    (λ i. omega (arith, c.type_inv.w i)) n.result.rows n.result.place c.rank-j.result c.holds-there.result
    n.ensures.rows n.ensures.place (rw c.count_of-c.ensures.value at c.rank-j.ensures) (rw c.count_of-c.ensures.value at c.holds-there.ensures)
