-- `option::flag_start` meets its contract.
-- Assumes nothing.
use Rattle.lists.specs.OptionLaws.{plus_none, plus_first, plus_one, plus_second}
use Rattle.lists.proofs.option.flag_start.Goals as goal

pub returns-in_err-b : goal.returns-in_err-b
returns-in_err-b c = rw c.from_residual.ensures (plus_none (rw c.in_err-b.was at c.emit_at.ensures))

pub returns-then-b-ne43 : goal.returns-then-b-ne43
returns-then-b-ne43 c = plus_first (rw c.in_ok-b.was at c.emit_at.ensures).0 c.if-b-ne43.true

pub returns-in_err-d : goal.returns-in_err-d
returns-in_err-d c = rw c.from_residual-in_err-d.ensures (plus_one (rw c.in_ok-b.was at c.emit_at.ensures).0 (rw c.in_err-d.was at c.emit_at-2.ensures))

pub returns-then-d-ne43 : goal.returns-then-d-ne43
returns-then-d-ne43 c = plus_second (rw c.in_ok-b.was at c.emit_at.ensures).0
    (rw c.in_ok-d.was at c.emit_at-2.ensures).0 c.if-d-ne43.true
