-- `range::parse_any_range` meets its contract: each return rewrites with what was read and the tests that led there.
-- Assumes nothing.
use mathlib.Core.Path.{sym, ◌∙◌}
use borrow.Author.Tests.{eq-eqb, ne_eqb}
use Rattle.ranges.specs.Range.{range_at, after_first}
use Rattle.ranges.specs.PartedLaws.{parted, unparted}
use Rattle.std.proofs.lemmas.Result.{err_from_is_err_and}
use Rattle.ranges.proofs.range.parse_any_range.Goals as goal

pub returns-in_err-l : goal.returns-in_err-l
unfolding range_at after_first
returns-in_err-l c =
    let p = err_from_is_err_and c.from_residual.result c.from_residual.ensures.1 in
    rw (p.1, p.2, ← c.in_err-l.ensures)

pub returns-then-parts : goal.returns-then-parts
unfolding range_at after_first
returns-then-parts c = let d = rw (c.parse_range_ending-then-parts.ensures, c.parse_range_sep.ensures) at c.double.ensures in
    rw (← c.in_ok-l.ensures)
    (d ∙ parted _ _ _ _ _ c.byte_at-b.ensures (sym c.parts.ensures ∙ c.if-parts.true))

pub returns-then-to-at : goal.returns-then-to-at
unfolding range_at after_first
returns-then-to-at c = rw (
  ← c.in_ok-l.ensures,
  eq-eqb _ _ c.if-to-at.true,
)
    (unparted _ _ _ _ _ c.byte_at-b.ensures (sym c.parts.ensures ∙ c.if-parts.false))

pub returns-else-to-at : goal.returns-else-to-at
unfolding range_at after_first
returns-else-to-at c = rw (
  c.ending_again.ensures,
  ← c.in_ok-l.ensures,
  ne_eqb _ _ c.if-to-at.false,
)
    (unparted _ _ _ _ _ c.byte_at-b.ensures (sym c.parts.ensures ∙ c.if-parts.false))
