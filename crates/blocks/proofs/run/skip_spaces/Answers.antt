-- `run::skip_spaces` meets its contract.
-- Assumes nothing.
use Rattle.std.proofs.Common.{◌∙◌, sym, ap, arith}
use Rattle.scan.specs.Bytes.{is_space}
use Rattle.scan.specs.RunLaws.{run_at_none, run_at_on}
use Rattle.blocks.specs.TestLaws.{space_inside}
use Rattle.blocks.proofs.run.skip_spaces.Goals as goal

pub returns-then-not-has : goal.returns-then-not-has
returns-then-not-has c = sym (run_at_none is_space _ _ (sym (ap is_space c.byte_at.ensures) ∙ sym c.has.ensures ∙ c.if-not-has.true))

-- the first byte is a space, and stands within the text

pub overflow_add-i : goal.overflow_add-i
overflow_add-i c = omega (arith, space_inside c.args.s.now c.args.at (sym (ap is_space c.byte_at.ensures) ∙ sym c.has.ensures ∙ c.if-not-has.false))

pub returns-then-not-has-2 : goal.returns-then-not-has-2
returns-then-not-has-2 c =
    let first = sym (ap is_space c.byte_at.ensures) ∙ sym c.has.ensures ∙ c.if-not-has.false in
    sym
    (run_at_on is_space _ _ (space_inside _ _ first) first
    ∙ run_at_none is_space _ _ (sym (ap is_space c.byte_at-2.ensures) ∙ sym c.has-2.ensures ∙ c.if-not-has-2.true))

pub returns : goal.returns
returns c =
    let first = sym (ap is_space c.byte_at.ensures) ∙ sym c.has.ensures ∙ c.if-not-has.false in
    c.long_run_end.ensures ∙ sym (run_at_on is_space _ _ (space_inside _ _ first) first)
