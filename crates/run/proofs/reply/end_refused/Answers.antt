-- `reply::end_refused` meets its contract.
-- Assumes nothing.
use Rattle.commands.specs.Run.{out_no, out_bytes}
use Rattle.run.specs.Reply.{reply}
use Rattle.run.proofs.reply.end_refused.Goals as goal

pub returns : goal.returns
unfolding reply out_no out_bytes
returns c = rw c.from.ensures
