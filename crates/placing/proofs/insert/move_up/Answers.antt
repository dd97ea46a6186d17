-- `insert::move_up` meets its contract. The invariant: the bytes from i on stand k places higher, and nothing else has changed.
-- Assumes nothing.
use mathlib.Core.Path.{◌≡◌, refl, sym, ◌∙◌, ap}
use Prim.Native.Nat.{ℕ, ◌+◌}
use native.Mathlib.Omega.{arith}
use lib.ListN.{length-set}
use lib.Seq.{sets}
use Rattle.scan.specs.Scan.{part_of}
use Rattle.scan.specs.PartLaws.{part_none}
use Rattle.placing.specs.WriteLaws.{moved_turn}
use Rattle.placing.proofs.insert.move_up.Goals as goal

pub loop-i-init : goal.loop-i-init
loop-i-init c = let a = c.args in
    (omega arith, omega arith, refl, ap (sets a.b.now (a.to + a.k)) (sym (part_none a.b.now a.to a.to (omega arith))))

pub loop-i-preserved : goal.loop-i-preserved
loop-i-preserved c = let a = c.args in
    let l = c.loop-i in
    (omega arith, omega arith, length-set l.b _ _ ∙ l.invariant.2, moved_turn a.b.now l.b a.k l.i a.to (omega arith) l.invariant.1 (omega arith) l.invariant.3)

pub returns : goal.returns
returns c = let a = c.args in
    let l = c.loop-i in
    let e : l.i ≡ a.from = omega arith in
    l.invariant.3 ∙ ap (λ (n : ℕ). sets a.b.now (n + a.k) (part_of a.b.now n a.to)) e
