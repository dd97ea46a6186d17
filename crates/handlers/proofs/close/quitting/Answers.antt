-- `close::quitting` meets its contract.
-- Assumes nothing.
use Rattle.handlers.specs.Close.{quitting}
use Rattle.handlers.proofs.close.quitting.Goals as goal

pub returns-then-bang : goal.returns-then-bang
unfolding quitting
returns-then-bang c = rw c.if-bang.true

pub returns : goal.returns
unfolding quitting
returns c = rw c.if-bang.false
