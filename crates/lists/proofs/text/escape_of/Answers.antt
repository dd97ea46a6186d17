-- `text::escape_of` meets its contract.
-- Assumes nothing.
use Rattle.lists.specs.Text.{escape_of}
use Rattle.lists.proofs.text.escape_of.Goals as goal

pub returns-then-quoted : goal.returns-then-quoted
unfolding escape_of
returns-then-quoted c = rw c.if-quoted.true c.quoted_escape.ensures

pub returns-else-quoted : goal.returns-else-quoted
unfolding escape_of
returns-else-quoted c = rw c.if-quoted.false c.plain_escape.ensures
