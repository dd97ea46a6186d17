-- `close::forced` meets its contract.
-- Assumes nothing.
use Rattle.handlers.specs.Close.{forced}
use Rattle.handlers.proofs.close.forced.Goals as goal

pub returns-then-bang : goal.returns-then-bang
unfolding forced
returns-then-bang c = rw c.if-bang.true

pub returns : goal.returns
unfolding forced
returns c = rw c.if-bang.false
