-- `remove::move_down` meets its contract. The invariant: the bytes before i are moved.
-- Assumes nothing.
use mathlib.Core.Path.{◌≡◌, sym, ◌∙◌, ap}
use Prim.Native.Nat.{ℕ, ◌-◌}
use native.Mathlib.Omega.{arith}
use lib.Seq.{sets}
use Rattle.scan.specs.Scan.{part_of}
use Rattle.scan.specs.PartLaws.{part_none}
use Rattle.placing.specs.RemoveLaws.{moved_down}
use Rattle.placing.proofs.remove.move_down.Goals as goal

pub loop-i-init : goal.loop-i-init
loop-i-init c = let a = c.args in
    (omega arith, (omega arith, ap (sets a.b.now (a.from - a.k)) (sym (part_none a.b.now a.from a.from (omega arith)))))

pub loop-i-preserved : goal.loop-i-preserved
loop-i-preserved c = let l = c.loop-i in
    let a = c.args in
    (omega arith, (omega arith, moved_down a.b.now l.b a.from l.i a.k (omega arith) (omega arith) (omega arith) l.invariant.1.1))

pub returns : goal.returns
returns c = let l = c.loop-i in
    let a = c.args in
    let e : l.i ≡ a.to = omega arith in
    l.invariant.1.1 ∙ ap (λ (n : ℕ). sets a.b.now (a.from - a.k) (part_of a.b.now a.from n)) e
