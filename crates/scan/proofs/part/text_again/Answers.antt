-- `part::text_again` meets its contract.
-- Assumes nothing.
use Prim.Native.Nat.{◌-◌}
use native.Mathlib.Omega.{arith}
use lib.ListN.{length}
use lib.Seq.{take_all}
use Rattle.scan.proofs.part.text_again.Goals as goal

pub returns : goal.returns
returns c = let s = c.args.s.now in
    take_all (length s - 0) s (omega arith)
