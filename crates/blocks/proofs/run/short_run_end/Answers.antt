-- `run::short_run_end` meets its contract.
-- Assumes nothing.
use Rattle.std.proofs.Common.{rules, sym, ◌∙◌}
use Rattle.scan.specs.RunLaws.{run_at_on, run_at_off, run_at_end}
use Rattle.blocks.proofs.run.short_run_end.Goals.{else-i-s-via-then-i-s+else-has, else-i-s-via-else-i-s}
use Rattle.blocks.proofs.run.short_run_end.Goals as goal

pub returns-then-not-has : goal.returns-then-not-has
returns-then-not-has g c = sym (run_at_off _ _ _ (search rules) (sym c.has.ensures ∙ c.if-not-has.true))

pub returns-then-has : goal.returns-then-has
returns-then-has g c =
    let first = run_at_on _ _ _ (search rules) (sym c.has.ensures ∙ c.if-not-has.false) in
    let second = run_at_on _ _ _ (search rules) (sym c.has-then-i-s.ensures ∙ c.if-has.true) in
    c.long_run_end.ensures ∙ sym (first ∙ second)

pub returns-then-at-s : goal.returns-then-at-s
returns-then-at-s g c =
    let first = run_at_on _ _ _ (search rules) (sym c.has.ensures ∙ c.if-not-has.false) in
    sym
    (first
    ∙ elim c.else-i-s.branch [
      | else-i-s-via-then-i-s+else-has w ↦ run_at_off _ _ _ w.if-i-s.true (sym w.has-then-i-s.ensures ∙ w.if-has.false)
      | else-i-s-via-else-i-s w ↦ run_at_end _ _ _ w.if-i-s.false
    ])

pub returns : goal.returns
returns g c = sym (run_at_end _ _ _ (search rules))
