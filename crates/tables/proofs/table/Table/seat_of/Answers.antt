-- `table::Table::seat_of` meets its contract: a word is looked for among those as long, and no other row has it.
-- Assumes nothing.
use Rattle.std.proofs.Common.{◌+◌, ◌*◌, length, sym, ◌∙◌, arith}
use Rattle.tables.specs.FindLaws.{table_unframed, table_empty, table_none, group_bytes, table_missing}
use Rattle.tables.specs.Seat.{Seated, Found, seated, seated_few, seated_end, seated_last}
use Rattle.tables.proofs.table.Table.seat_of.Goals as goal

pub returns-then-count-eq0 : goal.returns-then-count-eq0
unfolding Found
returns-then-count-eq0 c = let a = c.args.self.now in
    table_empty a.at a.most a.b.now c.args.w.now.bytes.now (sym c.count.ensures.value ∙ c.if-count-eq0.true)

pub returns-then-c-eq0 : goal.returns-then-c-eq0
unfolding Found
returns-then-c-eq0 c = let a = c.args.self.now in
    table_none a.at a.most a.b.now c.args.w.now.bytes.now (omega arith) (omega arith) (omega arith) (sym c.count_of-c.ensures.value ∙ c.if-c-eq0.true)

pub returns-then-not-framed : goal.returns-then-not-framed
unfolding Found
returns-then-not-framed c = let a = c.args.self.now in
    table_unframed a.at a.most a.b.now c.args.w.now.bytes.now (sym c.framed.ensures ∙ c.if-not-framed.true)

pub seek-j-requires : goal.seek-j-requires
seek-j-requires c = let a = c.args.self.now in
    let g = group_bytes a.at a.most a.b.now c.args.w.now.bytes.now (omega arith) (omega arith) (omega arith) (sym c.framed.ensures ∙ c.if-not-framed.false) (omega arith) in
    let p = c.start_of-g.ensures.place in record { le_q = omega arith; w_in_bounds = rw c.count_of-c.ensures.value (omega (arith, p, g)) }

pub returns-then-j-c : goal.returns-then-j-c
unfolding Found
returns-then-j-c c = let a = c.args.self.now in
    table_missing a.at a.most a.b.now c.args.w.now.bytes.now (omega arith) (omega arith) (omega arith) (sym c.framed.ensures ∙ c.if-not-framed.false) (omega arith) c.start_of-g.result.place c.start_of-g.ensures.place
    (sym (rw c.count_of-c.ensures.value at c.seek-j.ensures) ∙ c.if-j-c.true ∙ c.count_of-c.ensures.value)

-- where it is found

pub overflow_add-result : goal.overflow_add-result
overflow_add-result c = let seated-here : let a = c.args.self.now in
    let g = c.start_of-g.result in
    let j = c.seek-j.result in
    Seated a.at a.most a.b.now c.args.w.now.bytes.now (g.rows + j) (g.place + j * length c.args.w.now.bytes.now) = let a = c.args.self.now in
    seated a.at a.most a.b.now c.args.w.now.bytes.now (sym c.framed.ensures ∙ c.if-not-framed.false) (omega arith) (omega arith) (omega arith) _ _ _ c.start_of-g.ensures.rows c.start_of-g.ensures.place (rw c.count_of-c.ensures.value at c.seek-j.ensures) (λ e. c.if-j-c.false (e ∙ sym c.count_of-c.ensures.value)) in
    omega (arith, seated_few seated-here)

pub overflow_mul-result : goal.overflow_mul-result
overflow_mul-result c = let seated-here : let a = c.args.self.now in
    let g = c.start_of-g.result in
    let j = c.seek-j.result in
    Seated a.at a.most a.b.now c.args.w.now.bytes.now (g.rows + j) (g.place + j * length c.args.w.now.bytes.now) = let a = c.args.self.now in
    seated a.at a.most a.b.now c.args.w.now.bytes.now (sym c.framed.ensures ∙ c.if-not-framed.false) (omega arith) (omega arith) (omega arith) _ _ _ c.start_of-g.ensures.rows c.start_of-g.ensures.place (rw c.count_of-c.ensures.value at c.seek-j.ensures) (λ e. c.if-j-c.false (e ∙ sym c.count_of-c.ensures.value)) in
    let s = seated-here in omega (arith, seated_end s, seated_last s)

pub overflow_add-result-2 : goal.overflow_add-result-2
overflow_add-result-2 c = let seated-here : let a = c.args.self.now in
    let g = c.start_of-g.result in
    let j = c.seek-j.result in
    Seated a.at a.most a.b.now c.args.w.now.bytes.now (g.rows + j) (g.place + j * length c.args.w.now.bytes.now) = let a = c.args.self.now in
    seated a.at a.most a.b.now c.args.w.now.bytes.now (sym c.framed.ensures ∙ c.if-not-framed.false) (omega arith) (omega arith) (omega arith) _ _ _ c.start_of-g.ensures.rows c.start_of-g.ensures.place (rw c.count_of-c.ensures.value at c.seek-j.ensures) (λ e. c.if-j-c.false (e ∙ sym c.count_of-c.ensures.value)) in
    let s = seated-here in omega (arith, seated_end s, seated_last s)

pub returns : goal.returns
unfolding Found
returns c = let seated-here : let a = c.args.self.now in
    let g = c.start_of-g.result in
    let j = c.seek-j.result in
    Seated a.at a.most a.b.now c.args.w.now.bytes.now (g.rows + j) (g.place + j * length c.args.w.now.bytes.now) = let a = c.args.self.now in
    seated a.at a.most a.b.now c.args.w.now.bytes.now (sym c.framed.ensures ∙ c.if-not-framed.false) (omega arith) (omega arith) (omega arith) _ _ _ c.start_of-g.ensures.rows c.start_of-g.ensures.place (rw c.count_of-c.ensures.value at c.seek-j.ensures) (λ e. c.if-j-c.false (e ∙ sym c.count_of-c.ensures.value)) in
    seated-here
