-- `run::long_run_end` meets its contract.
-- Assumes nothing.
use Rattle.std.proofs.Common.{rules, sym, ◌∙◌}
use Rattle.scan.specs.RunLaws.{run_at_on, run_at_off, run_at_end, run_reached, run_wider}
use Rattle.blocks.proofs.run.long_run_end.Goals as goal

pub returns-then-not-has : goal.returns-then-not-has
returns-then-not-has g c = sym (c.loop-i.invariant ∙ run_at_off _ _ _ (search rules) (sym c.has.ensures ∙ c.if-not-has.true))

pub returns-then-i-at-eq-FIRST : goal.returns-then-i-at-eq-FIRST
returns-then-i-at-eq-FIRST g c =
    c.run_end.ensures ∙ sym (c.loop-i.invariant ∙ run_wider _ _ _ _ _ g.met.C.Long.wider c.blocks_end.ensures.run)

pub loop-i-preserved : goal.loop-i-preserved
loop-i-preserved g c = c.loop-i.invariant ∙ run_at_on _ _ _ (search rules) (sym c.has.ensures ∙ c.if-not-has.false)

pub returns : goal.returns
returns g c =
    c.max.ensures ∙ sym (run_reached _ _ _ _ _ c.loop-i.auto.i-end c.loop-i-test.false c.loop-i.invariant ∙ run_at_end _ _ _ (search rules))
