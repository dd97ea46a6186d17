-- `tally::entry` meets its contract.
-- Assumes nothing.
use Rattle.std.proofs.Common.{sym, ◌∙◌, arith}
use Rattle.limits.specs.RefusalsLaws.{refusals_count}
use Rattle.tally.specs.Tally.{entry_of}
use Rattle.tally.proofs.entry.Goals as goal

pub returns-in-Ok : goal.returns-in-Ok
unfolding entry_of
returns-in-Ok c = let e = sym c.try_from.ensures ∙ c.in-Ok.is in record { value = rw e c.place.ensures.value; bound = omega (arith, c.place.ensures.bound) }

pub returns-in-Err : goal.returns-in-Err
unfolding entry_of
returns-in-Err c = record { value = rw (sym c.try_from.ensures ∙ c.in-Err.is, refusals_count); bound = omega (arith, refusals_count) }
