-- `reply::end_nothing` meets its contract.
-- Assumes nothing.
use native.Mathlib.Omega.{arith}
use Rattle.store.specs.Splice.{put_length}
use Rattle.commands.specs.Run.{Out, out_no, out_bytes}
use Rattle.run.specs.ReplyLaws.{end_answer, end_store}
use Rattle.run.proofs.reply.end_nothing.Goals as goal

pub returns : goal.returns
unfolding out_no out_bytes
returns c = let w = c.put_nothing-count.ensures in record {
  answer = end_answer Out.nothing _ w.put;
  store = end_store Out.nothing w.put (omega (arith, w.most, c.requires));
  size = put_length w.put;
}
