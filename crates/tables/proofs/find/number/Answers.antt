-- `find::number` meets its contract. The invariant: x is the number of the bytes from k on, of as many bytes.
-- Assumes nothing.
use Rattle.std.proofs.Common.{◌≡◌, ℕ, suc, ◌+◌, ◌-◌, ◌*◌, length, drop, sym, ap, ◌∙◌, arith}
use native.Mathlib.Nat.{pow-le-pow_right}
use Rattle.scan.specs.Number.{number_of}
use Rattle.scan.specs.Scan.{byte_at}
use Rattle.tables.specs.FindLaws.{number_step, number_end, byte_below}
use Rattle.tables.proofs.find.number.Goals as goal

pub loop-k-init : goal.loop-k-init
loop-k-init c = let w = c.args.w.now in
    let z : length w - length w ≡ 0 = omega arith in
    (omega arith, (sym (number_end w (length w) (omega arith)), rw z (omega arith)))

pub overflow_mul-x : goal.overflow_mul-x
overflow_mul-x c = let l = c.loop-k in omega (arith, l.invariant.1.1, pow-le-pow_right {n = 2} (omega arith) {i = 8 * (length c.args.w.now - l.k)} {j = 56} (omega arith))

pub overflow_add-x : goal.overflow_add-x
overflow_add-x c = let l = c.loop-k in
    omega (
      arith,
      c.type_inv.w (l.k - 1),
      pow-le-pow_right {n = 2} (omega arith) {i = 8 * (length c.args.w.now - l.k)} {j = 56} (omega arith),
    )

pub loop-k-preserved : goal.loop-k-preserved
loop-k-preserved c = let l = c.loop-k in
    let w = c.args.w.now in
    let k : l.k - 1 + 1 ≡ l.k = omega arith in
    let e : length w - (l.k - 1) ≡ suc (length w - l.k) = omega arith in
    let x : number_of (drop (l.k - 1) w) ≡ number_of (drop l.k w) * 256 + byte_at w (l.k - 1) =
    number_step w (l.k - 1) (omega arith) ∙ ap (λ (n : ℕ). number_of (drop n w) * 256 + byte_at w (l.k - 1)) k in
    (omega arith, (omega arith, rw e (byte_below (length w - l.k) _ _ l.invariant.1.1 (omega (arith, c.type_inv.w (l.k - 1))))))
