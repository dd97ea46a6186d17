-- `token::parted` meets its contract.
-- Assumes nothing.
use mathlib.Core.Path.{sym, ◌∙◌}
use borrow.Author.Tests.{le-leb, lt-leb}
use Rattle.scanner.specs.Tokens.{parted}
use Rattle.scanner.proofs.token.parted.Goals as goal

pub returns-then-s-j : goal.returns-then-s-j
unfolding parted
returns-then-s-j c = rw (le-leb _ _ c.if-s-j.true)

pub returns-then-has : goal.returns-then-has
unfolding parted
returns-then-has c = rw (lt-leb _ _ c.if-s-j.false, ← c.byte_at-b.ensures, sym c.has.ensures ∙ c.if-has.true)

pub returns : goal.returns
unfolding parted
returns c = rw (lt-leb _ _ c.if-s-j.false, ← c.byte_at-b.ensures, sym c.has.ensures ∙ c.if-has.false)
