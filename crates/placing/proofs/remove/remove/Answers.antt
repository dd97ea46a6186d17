-- `remove::remove` meets its contract.
-- Assumes nothing.
use Rattle.tables.specs.Seat.{Found}
use Rattle.placing.specs.RemoveLaws.{removed_not, seated_has}
use Rattle.placing.proofs.remove.remove.Goals as goal

pub returns-in_default : goal.returns-in_default
unfolding Found
returns-in_default c = let r = removed_not _ _ _ _ (rw c.in_default.is at c.seat_of.ensures) in record { answer = r.0; bytes = r.1 }

pub take_word-requires : goal.take_word-requires
unfolding Found
take_word-requires c = c.in-Some.ensures

pub returns : goal.returns
unfolding Found
returns c = record { answer = seated_has c.in-Some.ensures; bytes = c.take_word.ensures }
