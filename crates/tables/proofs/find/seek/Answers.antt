-- `find::seek` meets its contract. The invariant: the word is not among the first j, and the next of them ends at e.
-- Assumes nothing.
use Rattle.std.proofs.Common.{◌≡◌, ℕ, suc, ◌+◌, ◌-◌, ◌*◌, length, drop, sym, ap, ◌∙◌, suc-mul, arith}
use Rattle.tables.specs.FindLaws.{seek_none, seek_here, seek_later}
use Rattle.tables.proofs.find.seek.Goals as goal

pub returns-then-stands : goal.returns-then-stands
returns-then-stands c = let l = c.loop-j in
    let a = c.args in
    seek_here a.b.now a.w.now.bytes.now l.e a.c l.j (omega arith) (omega arith) (sym c.stands.ensures ∙ c.if-stands.true) ∙ l.invariant.1.1.1

pub loop-j-preserved : goal.loop-j-preserved
loop-j-preserved c = let l = c.loop-j in
    let a = c.args in
    let n : a.c - l.j ≡ suc (a.c - (l.j + 1)) = omega arith in
    let m = ap (λ (k : ℕ). k * length a.w.now.bytes.now) n ∙ suc-mul (a.c - (l.j + 1)) (length a.w.now.bytes.now) in
    let s = seek_later a.b.now a.w.now.bytes.now l.e a.c l.j (omega arith) (omega arith) (sym c.stands.ensures ∙ c.if-stands.false) in
    (omega arith, (omega arith, (omega arith, s ∙ l.invariant.1.1.1)))

pub returns : goal.returns
returns c = let l = c.loop-j in
    let a = c.args in
    omega (arith, l.invariant.1.1.1, seek_none (a.c - l.j) a.w.now.bytes.now (drop (l.e - length a.w.now.bytes.now) a.b.now) (omega arith))
