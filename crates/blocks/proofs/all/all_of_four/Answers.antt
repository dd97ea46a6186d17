-- `all::all_of_four` meets its contract.
-- Assumes nothing.
use Rattle.std.proofs.Common.{◌≡◌, ◌-◌, ◌+◌, ◌∙◌, arith, length, min}
use Rattle.blocks.specs.BlockLaws.{piece_more, all_whole}
use Rattle.blocks.proofs.all.all_of_four.Goals as goal

pub returns : goal.returns
returns g c = let s = c.args.s.now in
    let p = g.C.Class.rule in
    let second = c.min-second.result in
    let third = c.min-third.result in
    let b : second ≡ min (length s - 16) 16 = c.min-second.ensures in
    let d : third ≡ min (length s - 16) 32 = c.min-third.ensures in
    rw (
      c.all.ensures,
      c.all-2.ensures,
      c.all-3.ensures,
      c.all-4.ensures,
      piece_more p s 16 second (second + 16) (omega (arith, b)) (omega arith),
      piece_more p s (second + 16) third (third + 16) (omega (arith, b, d, c.requires)) (omega (arith, b, d)),
    )
    (piece_more p s (third + 16) (length s - 16) (length s) (omega (arith, d, c.requires)) (omega (arith, d, c.requires)) ∙ all_whole p s)
