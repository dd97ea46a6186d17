-- `insert::insert_among` meets its contract.
-- Assumes nothing.
use native.Mathlib.Omega.{arith}
use Rattle.tables.specs.FrameLaws.{framed_told}
use Rattle.placing.proofs.insert.insert_among.Goals as goal

pub bounds-b-at : goal.bounds-b-at
bounds-b-at c = let a = c.args in
    let f = framed_told a.at a.most a.b.now c.requires.framed in
    omega (arith, f.size, f.few, c.requires.some, c.spot_of-s.ensures.above)
