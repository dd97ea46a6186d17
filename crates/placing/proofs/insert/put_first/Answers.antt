-- `insert::put_first` meets its contract.
-- Assumes nothing.
use Rattle.placing.specs.InsertLaws.{first_made}
use Rattle.placing.proofs.insert.put_first.Goals as goal

pub returns : goal.returns
returns c = let a = c.args in
    first_made a.at a.most a.w.now.bytes.now a.command a.b.now c.put_counts.new.b c.put_counts.ensures
    c.put_bytes.new.store c.put_bytes.ensures.store
