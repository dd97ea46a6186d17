-- `table::Table::framed` meets its contract.
-- Assumes nothing.
use Rattle.std.proofs.Common.{ℕ, eqb, sym, ap, ◌∙◌, arith}
use Rattle.tables.specs.FrameLaws.{framed_is, framed_not, framed_sum}
use Rattle.tables.proofs.table.Table.framed.Goals as goal

pub returns-then-self-n : goal.returns-then-self-n
returns-then-self-n c = let a = c.args.self.now in
    sym (framed_not a.at a.most a.b.now (λ f. omega (arith, f.few)))

pub returns-then-n-eq0 : goal.returns-then-n-eq0
returns-then-n-eq0 c = let a = c.args.self.now in
    sym (framed_is a.at a.most a.b.now (record { size = omega arith; few = omega arith; total = λ k. absurd (omega arith) }))

pub returns : goal.returns
returns c = let a = c.args.self.now in
    ap (λ (n : ℕ). eqb n c.count-n.result) c.sum.ensures.value ∙ ap (eqb _) c.count-n.ensures.value ∙ sym (framed_sum a.at a.most a.b.now (omega arith) (omega arith) (omega arith))
