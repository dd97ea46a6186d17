-- `all::all_of_two` meets its contract.
-- Assumes nothing.
use Rattle.std.proofs.Common.{◌-◌, ◌∙◌, arith, length}
use Rattle.blocks.specs.BlockLaws.{piece_more, all_whole}
use Rattle.blocks.proofs.all.all_of_two.Goals as goal

pub returns : goal.returns
returns g c = let s = c.args.s.now in
    rw (c.all.ensures, c.all-2.ensures)
    (piece_more g.C.Class.rule s c.args.n (length s - c.args.n) (length s) (omega (arith, c.requires)) (omega (arith, c.requires))
    ∙ all_whole g.C.Class.rule s)
