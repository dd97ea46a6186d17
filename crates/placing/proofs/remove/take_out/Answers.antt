-- `remove::take_out` meets its contract.
-- Assumes nothing.
use Prim.Native.Nat.{◌+◌, ◌-◌}
use native.Mathlib.Omega.{arith}
use Rattle.scan.specs.Scan.{byte_at}
use Rattle.placing.specs.RemoveLaws.{second_is}
use Rattle.placing.proofs.remove.take_out.Goals as goal

pub returns : goal.returns
returns c = let a = c.args in
    let s = a.b.now in
    let d = c.move_down in
    let g = c.move_down-2 in
    second_is s a.at a.m (byte_at s a.at - 1) (byte_at s (a.at + a.m) - 1) a.i a.o a.p a.e
    (omega arith) (omega arith) (omega arith) (omega arith) (omega arith) d.new.b d.ensures g.new.b g.ensures
