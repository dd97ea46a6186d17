-- `name::is_name` meets its contract.
-- Assumes nothing.
use Rattle.std.proofs.Common.{length, arith, le-leb, inl, inr}
use borrow.Author.Tests.{lt-leb}
use Rattle.tables.specs.Table.{is_name}
use Rattle.tables.proofs.name.is_name.Goals as goal

pub returns-in_default : goal.returns-in_default
unfolding is_name
returns-in_default c = elim (rw c.in_default.is at c.new.ensures.other) [
  | inl e ↦ rw (lt-leb 1 (length c.args.w.now) (omega (arith, e)))
  | inr l ↦ rw (le-leb 1 (length c.args.w.now) (omega (arith, l)), lt-leb _ _ l)
]

pub returns : goal.returns
unfolding is_name
returns c = rw (← c.in-Some.ensures.same) (rw (c.run_end.ensures, le-leb 1 _ c.in-Some.s.some, le-leb _ _ c.in-Some.s.short))
