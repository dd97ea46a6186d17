-- `texts::page::set_hex` meets its contract.
-- Assumes nothing.
use Rattle.std.proofs.Common.{◌++◌, ◌*◌, ◌∙◌, sym, ap, arith, length-set, take, get_or}
use Rattle.std.proofs.lemmas.List.{append-nil, take_all}
use lib.ListN.{drop_of_length-le}
use Rattle.scan.specs.RunLaws.{drop_step}
use Rattle.texts.specs.Hex.{hex_of}
use Rattle.texts.specs.HexLaws.{hex_turn}
use Rattle.texts.proofs.page.set_hex.Goals as goal

pub loop-i-preserved : goal.loop-i-preserved
loop-i-preserved c = let l = c.loop-i in
    let s = c.args.s.now in (
      length-set _ _ _ ∙ length-set _ _ _ ∙ l.invariant.0,
      rw (c.digit.ensures, c.digit-in-loop-i.ensures)
          (hex_turn l.out s l.i (get_or s l.i 0) (omega (arith, l.invariant.0, c.loop-i-test.true)) (drop_step s l.i c.loop-i-test.true))
          ∙ l.invariant.1,
    )

pub returns : goal.returns
unfolding hex_of
returns c = let l = c.loop-i in
    let written = take (2 * l.i) l.out in
    sym (take_all (2 * l.i) l.out (omega (arith, l.invariant.0, c.loop-i-test.false)))
    ∙ sym (append-nil written)
    ∙ sym (ap (λ r. written ++ hex_of r) (drop_of_length-le c.args.s.now c.loop-i-test.false))
    ∙ l.invariant.1
