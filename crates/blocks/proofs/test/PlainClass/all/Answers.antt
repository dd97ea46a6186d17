-- `test::PlainClass::all` meets its contract.
-- Assumes nothing.
use Rattle.std.proofs.Common.{rules, sym, take_all}
use Rattle.std.proofs.lemmas.List.Folds.{list_all_more}
use Rattle.blocks.specs.Test.{no_blank, no_sign}
use Rattle.blocks.specs.TestLaws.{plain_all}
use Rattle.blocks.proofs.test.PlainClass.all.Goals as goal

pub loop-i-preserved : goal.loop-i-preserved
loop-i-preserved c =
    let l = c.loop-i in (
      rw (l.invariant.0, c.has-blank.ensures) (sym (list_all_more no_blank c.args.s.now l.i 0 (search rules))),
      rw (l.invariant.1, c.has-sign.ensures) (sym (list_all_more no_sign c.args.s.now l.i 0 (search rules))),
    )

pub returns : goal.returns
returns c =
    let l = c.loop-i in
    let whole = take_all l.i c.args.s.now (search rules) in
    rw (l.invariant.0, l.invariant.1, whole) (plain_all c.args.s.now)
