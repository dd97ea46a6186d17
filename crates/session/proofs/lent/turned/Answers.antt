-- `lent::turned` meets its contract.
-- Assumes nothing.
use Rattle.session.specs.LentLaws.{turned_reply}
use Rattle.session.proofs.lent.turned.Goals as goal

pub returns : goal.returns
returns c = rw c.from.ensures (turned_reply _)
