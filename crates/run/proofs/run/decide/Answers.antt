-- `run::decide` meets its contract.
-- Assumes nothing.
use mathlib.Core.Path.{sym, ◌∙◌}
use borrow.Author.Tests.{eq-eqb, ne_eqb}
use Rattle.commands.specs.Run.{decide as decide_of, by_reading}
use Rattle.run.proofs.run.decide.Goals as goal

pub returns-then-a-e : goal.returns-then-a-e
unfolding decide_of by_reading
returns-then-a-e c = rw (sym c.parse_cmd_descr.ensures ∙ c.in-Ok.is, eq-eqb _ _ c.if-a-e.true)

pub returns-else-a-e : goal.returns-else-a-e
unfolding decide_of by_reading
returns-else-a-e c = rw (
  c.by_name.ensures,
  c.find_word.ensures,
  c.part.ensures,
  sym c.parse_cmd_descr.ensures ∙ c.in-Ok.is,
  ne_eqb _ _ c.if-a-e.false,
)

pub returns-in-Err : goal.returns-in-Err
unfolding decide_of by_reading
returns-in-Err c = rw (sym c.parse_cmd_descr.ensures ∙ c.in-Err.is)
