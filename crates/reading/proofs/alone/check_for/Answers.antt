-- `alone::check_for` meets its contract.
-- Assumes nothing.
use mathlib.Core.Path.{◌∙◌, sym}
use borrow.Author.Tests.{le-leb, lt-leb}
use Rattle.reading.specs.Alone.{check_for}
use Rattle.reading.proofs.alone.check_for.Goals as goal

pub returns-then-text-gt-LINE : goal.returns-then-text-gt-LINE
unfolding check_for
returns-then-text-gt-LINE c = rw (lt-leb _ _ c.if-text-gt-LINE.true)

pub returns-then-size-need : goal.returns-then-size-need
unfolding check_for
returns-then-size-need c = rw (le-leb _ _ c.if-text-gt-LINE.false, lt-leb _ _ c.if-size-need.true)

pub returns-then-is_utf8 : goal.returns-then-is_utf8
unfolding check_for
returns-then-is_utf8 c = rw (le-leb _ _ c.if-text-gt-LINE.false, le-leb _ _ c.if-size-need.false, sym c.is_utf8.ensures ∙ c.if-is_utf8.true)

pub returns : goal.returns
unfolding check_for
returns c = rw (le-leb _ _ c.if-text-gt-LINE.false, le-leb _ _ c.if-size-need.false, sym c.is_utf8.ensures ∙ c.if-is_utf8.false)
