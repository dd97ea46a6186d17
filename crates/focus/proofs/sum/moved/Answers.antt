-- `sum::moved` meets its contract.
-- Assumes nothing.
use borrow.Author.Tests.{le-leb, lt-leb}
use native.Mathlib.Omega.{arith}
use Prim.Native.Nat.{◌+◌, ◌≤◌, ◌<◌}
use Rattle.limits.specs.Limits.{most}
use Rattle.focus.specs.Sum.{moved}
use Rattle.focus.proofs.sum.moved.Goals as goal

pub returns-then-k-n : goal.returns-then-k-n
unfolding moved
returns-then-k-n c = let h : c.args.n + c.args.k ≤ most = omega arith in rw (c.in-Next.is, le-leb _ _ h)

pub returns-then-k-n-2 : goal.returns-then-k-n-2
unfolding moved
returns-then-k-n-2 c = rw c.in-Previous.is

pub returns-else-k-n : goal.returns-else-k-n
unfolding moved
returns-else-k-n c = let h : most < c.args.n + c.args.k = omega arith in rw (c.in-Next.is, lt-leb _ _ h)

pub returns-else-k-n-2 : goal.returns-else-k-n-2
unfolding moved
returns-else-k-n-2 c = rw c.in-Previous.is (omega arith)
