-- `insert::put_one` meets its contract: the byte and those moved up are one write.
-- Assumes nothing.
use mathlib.Core.Path.{refl}
use mathlib.Core.List.{◌∷◌, []}
use Rattle.scan.specs.Scan.{part_of}
use Rattle.placing.specs.WriteLaws.{sets_moved}
use Rattle.placing.proofs.insert.put_one.Goals as goal

pub returns : goal.returns
returns c = let a = c.args in
    sets_moved a.b.now a.from (a.x ∷ []) (part_of a.b.now a.from a.to) c.move_up.ensures refl
