-- `reply::end_done` meets its contract.
-- Assumes nothing.
use mathlib.Core.Path.{refl}
use native.Mathlib.Omega.{arith}
use Rattle.scan.specs.Scan.{part_of}
use Rattle.scan.specs.PartLaws.{part_short}
use Rattle.actions.specs.Record.{record_of, paper_of}
use Rattle.reading.specs.Alone.{at_front}
use Rattle.store.specs.Splice.{put_length}
use Rattle.commands.specs.Run.{Out, out_no, out_bytes}
use Rattle.commands.specs.Line.{store_after}
use Rattle.run.specs.Reply.{done_at}
use Rattle.run.specs.ReplyLaws.{end_answer, end_store}
use Rattle.run.proofs.reply.end_done.Goals as goal

pub returns-in-Ok : goal.returns-in-Ok
unfolding done_at out_no out_bytes record_of
returns-in-Ok c = let o = Out.act (paper_of (part_of c.args.line.now c.args.a c.args.e) c.in-Ok.y) in
    let n = part_short c.args.line.now c.args.a c.args.e in
    let w = rw c.part.ensures at c.put_action-count.ensures in
    rw c.in-Ok.is
    (record { answer = end_answer o _ w.put; store = end_store o w.put (omega (arith, w.most, c.requires, n)); size = put_length w.put })

pub returns-in-Err : goal.returns-in-Err
unfolding done_at store_after at_front out_bytes
returns-in-Err c = rw c.in-Err.is (record { answer = c.end_refused.ensures; store = refl; size = refl })
