-- `wording::record::put_record` meets its contract.
-- Assumes nothing.
use Rattle.texts.specs.WrittenLaws.{adds_again}
use Rattle.wording.proofs.record.put_record.Goals as goal

pub returns : goal.returns
returns c = adds_again c.len-start.ensures c.action-told.ensures c.cut.ensures c.text.ensures.adds
