-- `lent::run_in` meets its contract.
-- Assumes nothing.
use native.Mathlib.Omega.{arith}
use Rattle.reading.specs.Checks.{line_room_long}
use Rattle.session.proofs.lent.run_in.Goals as goal

pub run-reply-requires : goal.run-reply-requires
run-reply-requires c = (omega (arith, line_room_long c.args.line.now, c.requires.line_in_bounds))
