-- `sum::add_same` meets its contract.
-- Assumes nothing.
use borrow.Author.Tests.{le-leb, lt-leb}
use native.Mathlib.Omega.{arith}
use Prim.Native.Nat.{◌+◌, ◌≤◌, ◌<◌}
use Rattle.limits.specs.Limits.{most}
use Rattle.focus.specs.Sum.{add_same}
use Rattle.focus.proofs.sum.add_same.Goals as goal

pub returns-then-k-n : goal.returns-then-k-n
unfolding add_same
returns-then-k-n c = let h : c.args.n + c.args.k ≤ most = omega arith in rw (le-leb _ _ h)

pub returns : goal.returns
unfolding add_same
returns c = let h : most < c.args.n + c.args.k = omega arith in rw (lt-leb _ _ h)
