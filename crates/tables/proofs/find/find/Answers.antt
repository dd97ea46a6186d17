-- `find::find` meets its contract.
-- Assumes nothing.
use Rattle.std.proofs.Common.{arith, ◌∙◌}
use Rattle.tables.specs.Seat.{Found, seated_few, seated_size, seated_look}
use Rattle.tables.proofs.find.find.Goals as goal

pub returns-in_err-n : goal.returns-in_err-n
unfolding Found
returns-in_err-n c = c.from_residual.ensures ∙ c.in_err-n.ensures

pub overflow_add-result-3 : goal.overflow_add-result-3
unfolding Found
overflow_add-result-3 c = omega (arith, seated_few c.in_ok-n.ensures)

pub bounds-b-at : goal.bounds-b-at
unfolding Found
bounds-b-at c = omega (arith, seated_few c.in_ok-n.ensures, seated_size c.in_ok-n.ensures)

pub returns : goal.returns
unfolding Found
returns c = seated_look c.in_ok-n.ensures _ (omega arith)
