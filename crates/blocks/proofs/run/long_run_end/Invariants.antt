-- `run::long_run_end` meets its contract. The invariant: the run from i on ends where the run from the start does.
-- Assumes nothing.
use Rattle.std.proofs.Common.{◌≡◌}
use Rattle.scan.specs.Scan.{run_at}
use Rattle.blocks.proofs.run.long_run_end.Given as goal

abbrev pub invariant-loop-i : goal.invariant-loop-i
invariant-loop-i g l = run_at g.C.Class.rule l.s l.at ≡ run_at g.C.Class.rule l.s l.i
