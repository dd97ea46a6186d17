-- `insert::put_in` meets its contract: the word and the bytes moved up are one write.
-- Assumes nothing.
use Rattle.scan.specs.Scan.{part_of}
use Rattle.placing.specs.WriteLaws.{sets_moved}
use Rattle.placing.proofs.insert.put_in.Goals as goal

pub returns : goal.returns
returns c = let a = c.args in
    sets_moved a.b.now a.from a.w.now (part_of a.b.now a.from a.to) c.move_up.ensures c.put_bytes.ensures.store
