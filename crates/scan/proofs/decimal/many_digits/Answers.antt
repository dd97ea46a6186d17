-- `decimal::many_digits` meets its contract. The invariant: the run goes on at i, and what is left, read after n, has the value of the whole.
-- Assumes nothing.
use mathlib.Core.Path.{◌≡◌, ◌∙◌, sym}
use mathlib.Core.Bool.{true}
use Prim.Native.Nat.{◌+◌, ◌*◌, ◌-◌}
use native.Mathlib.Omega.{arith}
use lib.ListN.{get_or}
use Rattle.scan.specs.Bytes.{is_digit}
use Rattle.scan.specs.DigitsLaws.{Digital, digital, value_at_on, value_at_off, value_at_end, value_at_le, digits_done, digits_over}
use Rattle.scan.specs.RunLaws.{run_at_on, run_at_off, run_at_end, run_at_le}
use borrow.Author.Rules.{rules}
use Rattle.scan.proofs.decimal.many_digits.Goals as goal

pub loop-i-init : goal.loop-i-init
loop-i-init c = let z = c.past_zeros-i.ensures in (z.past, omega arith, z.run, z.value)

pub returns-then-not-is_digit : goal.returns-then-not-is_digit
returns-then-not-is_digit c = let l = c.loop-i in
    let t = sym c.is_digit.ensures ∙ c.if-not-is_digit.true in
    c.number.ensures
    ∙ digits_done _ _ _ _ (l.invariant.2 ∙ run_at_off _ _ _ (search rules) t) (l.invariant.3 ∙ value_at_off _ _ _ (search rules) t) l.invariant.1

pub overflow_sub-d : goal.overflow_sub-d
overflow_sub-d c = let passed : is_digit (get_or c.args.s.now c.loop-i.i 0) ≡ true = sym c.is_digit.ensures ∙ c.if-not-is_digit.false in
    let here : Digital (get_or c.args.s.now c.loop-i.i 0) = digital _ passed in
    omega (arith, here)

pub overflow_cast-d : goal.overflow_cast-d
overflow_cast-d c = let passed : is_digit (get_or c.args.s.now c.loop-i.i 0) ≡ true = sym c.is_digit.ensures ∙ c.if-not-is_digit.false in
    let here : Digital (get_or c.args.s.now c.loop-i.i 0) = digital _ passed in
    omega (arith, here)

pub too_large-requires : goal.too_large-requires
too_large-requires c = let passed : is_digit (get_or c.args.s.now c.loop-i.i 0) ≡ true = sym c.is_digit.ensures ∙ c.if-not-is_digit.false in
    let here : Digital (get_or c.args.s.now c.loop-i.i 0) = digital _ passed in
    omega (arith, here)

pub returns-then-too_large : goal.returns-then-too_large
returns-then-too_large c = let passed : is_digit (get_or c.args.s.now c.loop-i.i 0) ≡ true = sym c.is_digit.ensures ∙ c.if-not-is_digit.false in
    let l = c.loop-i in
    let s = c.args.s.now in
    let t = passed in
    digits_over _ _
    (omega (arith, run_at_on is_digit s l.i (search rules) t, run_at_le is_digit s (l.i + 1)))
    (omega (
      arith,
      c.too_large.ensures.0 c.if-too_large.true,
      value_at_on l.n s l.i (search rules) t,
      value_at_le (l.n * 10 + (get_or s l.i 0 - 48)) s (l.i + 1),
    ))

pub overflow_mul-n : goal.overflow_mul-n
overflow_mul-n c = omega (arith, c.too_large.ensures.1 c.if-too_large.false)

pub overflow_add-n : goal.overflow_add-n
overflow_add-n c = omega (arith, c.too_large.ensures.1 c.if-too_large.false)

pub loop-i-preserved : goal.loop-i-preserved
loop-i-preserved c = let passed : is_digit (get_or c.args.s.now c.loop-i.i 0) ≡ true = sym c.is_digit.ensures ∙ c.if-not-is_digit.false in
    let l = c.loop-i in
    let t = passed in (
      search rules,
      c.too_large.ensures.1 c.if-too_large.false,
      l.invariant.2 ∙ run_at_on _ _ _ (search rules) t,
      l.invariant.3 ∙ value_at_on _ _ _ (search rules) t,
    )

pub returns : goal.returns
returns c = let l = c.loop-i in
    c.number-2.ensures
    ∙ digits_done _ _ _ _ (l.invariant.2 ∙ run_at_end _ _ _ (search rules)) (l.invariant.3 ∙ value_at_end _ _ _ (search rules)) l.invariant.1
