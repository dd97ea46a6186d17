-- `insert::put` meets its contract.
-- Assumes nothing.
use mathlib.Core.Bool.{true, false}
use native.Mathlib.Omega.{arith}
use Rattle.std.proofs.Common.{inl, inr}
use Rattle.tables.specs.TableLaws.{table_framed, table_rows}
use Rattle.tables.specs.FrameLaws.{framed_told}
use Rattle.placing.specs.InsertLaws.{none_refused, long_refused, answered, first_none, first_done}
use Rattle.placing.proofs.insert.put.Goals as goal

pub returns-in_default : goal.returns-in_default
returns-in_default c = let a = c.args in
    elim (rw c.in_default.is at c.new.ensures.other) [
      | inl e ↦ let r = none_refused a.at a.most a.w.now a.command a.b.now e in record { answer = r.0; bytes = r.1 }
      | inr l ↦ let r = long_refused a.at a.most a.w.now a.command a.b.now l in record { answer = r.0; bytes = r.1 }
    ]

pub bounds-b-at : goal.bounds-b-at
bounds-b-at c = let a = c.args in
    let f = framed_told a.at a.most a.b.now (table_framed a.at a.most a.b.now c.requires.b_value) in
    omega (arith, f.size)

pub insert_among-requires : goal.insert_among-requires
insert_among-requires c = let a = c.args in
    record {
      framed = table_framed a.at a.most a.b.now c.requires.b_value;
      some = omega (arith, c.if-b-at-ne0.true);
      small = c.requires.most_bound;
      one = rw c.in-Some.ensures.same at c.in-Some.s.some;
      short = rw c.in-Some.ensures.same at c.in-Some.s.short;
      good = table_rows a.at a.most a.b.now c.requires.b_value;
    }

pub returns-then-b-at-ne0 : goal.returns-then-b-at-ne0
returns-then-b-at-ne0 c = let a = c.args in
    let r = answered a.at a.most a.w.now a.command a.b.now (λ e. omega (arith, e, (rw c.in-Some.ensures.same at c.in-Some.s.some))) (rw c.in-Some.ensures.same at c.in-Some.s.short) c.requires.b_value c.insert_among.result
    c.insert_among.new.b (c.insert_among.ensures.answer, c.insert_among.ensures.bytes) in
    record { answer = r.0; bytes = r.1 }

pub returns-then-most-eq0 : goal.returns-then-most-eq0
returns-then-most-eq0 c = let a = c.args in
    let r = answered a.at a.most a.w.now a.command a.b.now (λ e. omega (arith, e, (rw c.in-Some.ensures.same at c.in-Some.s.some))) (rw c.in-Some.ensures.same at c.in-Some.s.short) c.requires.b_value false a.b.now
    (first_none a.at a.most a.w.now a.command a.b.now c.if-b-at-ne0.false c.if-most-eq0.true) in
    record { answer = r.0; bytes = r.1 }

pub put_first-requires : goal.put_first-requires
put_first-requires c = let a = c.args in
    let f = framed_told a.at a.most a.b.now (table_framed a.at a.most a.b.now c.requires.b_value) in
    record { most_in_bounds = f.size; le_most = omega (arith, c.if-most-eq0.false) }

pub returns : goal.returns
returns c = let a = c.args in
    let put = c.put_first in
    let r = answered a.at a.most a.w.now a.command a.b.now (λ e. omega (arith, e, (rw c.in-Some.ensures.same at c.in-Some.s.some))) (rw c.in-Some.ensures.same at c.in-Some.s.short) c.requires.b_value true put.new.b
    (first_done a.at a.most a.w.now a.command a.b.now put.new.b c.if-b-at-ne0.false c.if-most-eq0.false (rw c.in-Some.ensures.same at put.ensures)) in
    record { answer = r.0; bytes = r.1 }
