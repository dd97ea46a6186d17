-- `insert::put_new` meets its contract.
-- Assumes nothing.
use Prim.Native.Nat.{◌+◌}
use native.Mathlib.Omega.{arith}
use lib.ListN.{length, set, length-set}
use Rattle.scan.specs.Scan.{byte_at}
use Rattle.tables.specs.FrameLaws.{framed_told, lengths_sum}
use Rattle.placing.specs.InsertLaws.{count_most, made_length, new_made}
use Rattle.placing.proofs.insert.put_new.Goals as goal

pub bounds-b-at-2 : goal.bounds-b-at-2
bounds-b-at-2 c = let a = c.args in
    omega (arith, (framed_told a.at a.most a.b.now c.requires.framed).size, c.requires.short)

pub invariant_of-end : goal.invariant_of-end
invariant_of-end c = let a = c.args in
    record { whole = (framed_told a.at a.most a.b.now c.requires.framed).size }

pub overflow_add-b-2 : goal.overflow_add-b-2
overflow_add-b-2 c = let a = c.args in
    let p = c.requires in
    omega (arith, count_most a.at a.most a.b.now (length a.w.now) p.framed p.some p.one p.short, p.room, p.small)

pub bounds-b-at-4 : goal.bounds-b-at-4
bounds-b-at-4 c = let a = c.args in
    omega (arith, (framed_told a.at a.most a.b.now c.requires.framed).size, c.requires.short, length-set a.b.now a.at (byte_at a.b.now a.at + 1))

pub put_one-requires : goal.put_one-requires
put_one-requires c = let a = c.args in
    let b = a.b.now in
    let n = byte_at b a.at + 1 in
    let l = length-set (set b a.at n) (a.at + length a.w.now) (byte_at b (a.at + length a.w.now) + 1) in
    record { from_le_to = omega (arith, c.requires.above); to_in_bounds = omega (arith, (framed_told a.at a.most b c.requires.framed).size, c.requires.room, l, length-set b a.at n) }

pub put_in-requires : goal.put_in-requires
put_in-requires c = let a = c.args in
    let p = c.requires in
    let f = framed_told a.at a.most a.b.now p.framed in
    let e = c.end-end.ensures in
    let l = made_length a.at a.most a.row a.place a.w.now a.command a.b.now c.put_one.new.b c.put_one.ensures in record { from_le_to = omega (arith, e, p.greatest); w_in_bounds = omega (arith, e, p.short, p.room, f.size, lengths_sum a.at a.most a.b.now f p.some, l) }

pub returns : goal.returns
returns c = let a = c.args in
    new_made a.at a.most a.row a.place a.w.now a.command a.b.now c.put_one.new.b c.put_one.ensures
    c.end-end.result c.end-end.ensures c.put_in.new.b c.put_in.ensures c.requires
