-- `classes::Class::all` meets its contract.
-- Assumes nothing.
use Rattle.std.proofs.Common.{rules, sym, take_all}
use Rattle.std.proofs.lemmas.List.Folds.{list_all_more}
use Rattle.scan.proofs.classes.Class.all.Goals as goal

pub loop-i-preserved : goal.loop-i-preserved
loop-i-preserved g c = rw (c.loop-i.invariant, c.has-m.ensures) (sym (list_all_more g.Self.Class.rule c.args.s.now c.loop-i.i 0 (search rules)))

pub returns : goal.returns
returns g c = rw (sym (take_all c.loop-i.i c.args.s.now (search rules))) c.loop-i.invariant
