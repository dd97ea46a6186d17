-- `find::seat_of` meets its contract: a word that is too short or too long stands in no table, and none does in too few bytes.
-- Assumes nothing.
use Rattle.std.proofs.Common.{inl, inr, arith}
use Rattle.tables.specs.FrameLaws.{framed_not}
use Rattle.tables.specs.FindLaws.{table_unframed, table_short, table_long}
use Rattle.tables.specs.Seat.{Found}
use Rattle.tables.proofs.find.seat_of.Goals as goal

pub returns-in_err-w : goal.returns-in_err-w
unfolding Found
returns-in_err-w c = let a = c.args in
    rw c.from_residual.ensures (elim c.in_err-w.ensures.other [
      | inl e ↦ table_short a.at a.most a.b.now a.w.now (omega arith)
      | inr l ↦ table_long a.at a.most a.b.now a.w.now (omega arith)
    ])

pub returns-in_err-new : goal.returns-in_err-new
unfolding Found
returns-in_err-new c = let a = c.args in
    rw c.from_residual-in_err-new.ensures (table_unframed a.at a.most a.b.now a.w.now (framed_not a.at a.most a.b.now (λ f. omega (arith, f.size, c.in_err-new.ensures))))
