-- `block::blocks_end` meets its contract. The invariant is the contract, at i.
-- Assumes nothing.
use Rattle.std.proofs.Common.{◌≡◌, ◌≤◌, ◌-◌, length}
use Rattle.scan.specs.Scan.{run_at}
use Rattle.scan.proofs.block.blocks_end.Given as goal

abbrev pub invariant-loop-i : goal.invariant-loop-i
invariant-loop-i g l = (l.at ≤ l.i) × (run_at g.C.Class.rule l.s l.at ≡ run_at g.C.Class.rule l.s l.i)

abbrev pub decreases-loop-i : goal.decreases-loop-i
decreases-loop-i g l = length l.s - l.i
