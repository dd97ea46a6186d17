-- `reply::end_unknown` meets its contract.
-- Assumes nothing.
use native.Mathlib.Omega.{arith}
use lib.ListN.{length}
use Rattle.scan.specs.Scan.{part_of}
use Rattle.scan.specs.PartLaws.{part_short}
use Rattle.actions.specs.Within.{named_room}
use Rattle.store.specs.Splice.{put_length}
use Rattle.commands.specs.Run.{Out, out_no, out_bytes}
use Rattle.run.specs.ReplyLaws.{end_answer, end_store}
use Rattle.run.proofs.reply.end_unknown.Goals as goal

pub put_name-count-requires : goal.put_name-count-requires
put_name-count-requires c = rw c.part.ensures (named_room _ (length c.args.line.now) (part_short c.args.line.now c.args.a c.args.e) (omega arith) (omega (arith, c.requires)))

pub returns : goal.returns
unfolding out_no out_bytes
returns c = let line = c.args.line.now in
    let v = part_of line c.args.a c.args.e in
    let h = rw c.part.ensures at c.put_name-count.ensures in
    let f = named_room {s = c.args.store.now} {at = 0} v (length line) (part_short line c.args.a c.args.e) (omega arith) (omega (arith, c.requires)) in
    rw c.from.ensures (record { answer = end_answer (Out.unknown v) _ h; store = end_store (Out.unknown v) h (omega (arith, h.place, f.fits)); size = put_length h })
