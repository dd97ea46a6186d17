-- `block::blocks_end` meets its contract.
-- Assumes nothing.
use Rattle.std.proofs.Common.{rules, ◌+◌, arith, sym, ◌∙◌}
use Rattle.scan.specs.RunLaws.{run_all}
use Rattle.scan.proofs.block.blocks_end.Goals as goal

pub loop-i-preserved : goal.loop-i-preserved
loop-i-preserved g c = let l = c.loop-i in (
  omega (arith, l.invariant.0),
  l.invariant.1 ∙ run_all g.C.Class.rule c.args.s.now l.i (l.i + 32) (omega arith) (search rules) (sym c.all.ensures ∙ c.if-not-all.false),
)
