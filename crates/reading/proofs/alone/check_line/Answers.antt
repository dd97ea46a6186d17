-- `alone::check_line` meets its contract.
-- Assumes nothing.
use borrow.Author.Tests.{lt-leb}
use Rattle.reading.specs.Alone.{check_for, line_room}
use Rattle.reading.proofs.alone.check_line.Goals as goal

pub returns-then-n-gt-LINE : goal.returns-then-n-gt-LINE
unfolding check_for
returns-then-n-gt-LINE c = rw (lt-leb _ _ c.if-n-gt-LINE.true)

pub returns : goal.returns
unfolding line_room
returns c = c.check_for.ensures
