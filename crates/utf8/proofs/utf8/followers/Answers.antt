-- `utf8::followers` meets its contract: at each return the tests that led there pick the case.
-- Assumes nothing.
use Rattle.std.proofs.Common.{sym, ◌∙◌}
use Rattle.utf8.specs.Utf8.{followers}
use Rattle.utf8.proofs.utf8.followers.Goals as goal

pub returns-then-within : goal.returns-then-within
unfolding followers
returns-then-within c = simp (sym c.within.ensures ∙ c.if-within.true)

pub returns-then-within-2 : goal.returns-then-within-2
unfolding followers
returns-then-within-2 c = simp (
  sym c.within.ensures ∙ c.if-within.false,
  sym c.within-2.ensures ∙ c.if-within-2.true,
)

pub returns-then-within-3 : goal.returns-then-within-3
unfolding followers
returns-then-within-3 c = simp (
  sym c.within.ensures ∙ c.if-within.false,
  sym c.within-2.ensures ∙ c.if-within-2.false,
  sym c.within-3.ensures ∙ c.if-within-3.true,
)

pub returns-then-within-4 : goal.returns-then-within-4
unfolding followers
returns-then-within-4 c = simp (
  sym c.within.ensures ∙ c.if-within.false,
  sym c.within-2.ensures ∙ c.if-within-2.false,
  sym c.within-3.ensures ∙ c.if-within-3.false,
  sym c.within-4.ensures ∙ c.if-within-4.true,
)

pub returns : goal.returns
unfolding followers
returns c = simp (
  sym c.within.ensures ∙ c.if-within.false,
  sym c.within-2.ensures ∙ c.if-within-2.false,
  sym c.within-3.ensures ∙ c.if-within-3.false,
  sym c.within-4.ensures ∙ c.if-within-4.false,
)
