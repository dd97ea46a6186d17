-- `option::key_is_empty` meets its contract.
-- Assumes nothing.
use mathlib.Core.Path.{sym, ap}
use Rattle.lists.specs.Lists.{is_empty}
use Rattle.lists.specs.OptionLaws.{key_first, key_none}
use Rattle.lists.proofs.option.key_is_empty.Goals as goal

pub returns-in-Some : goal.returns-in-Some
returns-in-Some c = key_first (rw c.in-Some.is at c.emit_at.ensures).0

pub returns-in-None : goal.returns-in-None
unfolding is_empty
returns-in-None c = sym (ap is_empty (key_none (rw c.in-None.is at c.emit_at.ensures)))
