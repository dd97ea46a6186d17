-- `decimal::many_digits` meets its contract. The invariant: the run goes on at i, and what is left, read after n, has the value of the whole.
-- Assumes nothing.
use mathlib.Core.Path.{◌≡◌}
use Prim.Native.Nat.{◌≤◌, ◌<◌, ◌^◌, ◌-◌}
use lib.ListN.{length}
use Rattle.scan.specs.Bytes.{is_digit}
use Rattle.scan.specs.Scan.{run_at, value_at}
use Rattle.scan.proofs.decimal.many_digits.Given as goal

abbrev pub invariant-loop-i : goal.invariant-loop-i
invariant-loop-i l = (l.at ≤ l.i) × (l.n < 2 ^ 64) × (run_at is_digit l.s l.at ≡ run_at is_digit l.s l.i) × (value_at 0 l.s l.at ≡ value_at l.n l.s l.i)

abbrev pub decreases-loop-i : goal.decreases-loop-i
decreases-loop-i l = length l.s - l.i
