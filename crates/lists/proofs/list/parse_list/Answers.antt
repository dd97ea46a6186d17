-- `list::parse_list` meets its contract.
-- Assumes nothing.
use borrow.Author.Tests.{eq-eqb, ne_eqb}
use mathlib.Core.Path.{sym}
use Rattle.lists.specs.Lists.{items_of}
use Rattle.lists.specs.Listed.{list_of}
use Rattle.lists.specs.ListLaws.{list_none}
use Rattle.lists.proofs.list.parse_list.Goals as goal

pub returns-then-skip_spaces-s : goal.returns-then-skip_spaces-s
unfolding list_of items_of
returns-then-skip_spaces-s c = rw (← c.skip_spaces.ensures, eq-eqb _ _ c.if-skip_spaces-s.true) (sym (list_none _ _ _))

pub returns : goal.returns
unfolding list_of items_of
returns c = rw (c.items_from.ensures, ← c.skip_spaces.ensures, ne_eqb _ _ c.if-skip_spaces-s.false)
