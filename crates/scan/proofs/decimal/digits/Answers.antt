-- `decimal::digits` meets its contract.
-- Assumes nothing.
use mathlib.Core.Path.{◌≡◌, ◌∙◌, sym, ap}
use mathlib.Core.Bool.{true}
use native.Mathlib.Omega.{arith}
use lib.ListN.{get_or}
use Rattle.scan.specs.Bytes.{is_digit}
use Rattle.scan.specs.DigitsLaws.{digital, digit_inside, digits_none, digits_one}
use Rattle.scan.proofs.decimal.digits.Goals as goal

pub returns-then-not-is_digit : goal.returns-then-not-is_digit
returns-then-not-is_digit c = digits_none _ _ (sym (ap is_digit c.byte_at-b.ensures) ∙ sym c.is_digit.ensures ∙ c.if-not-is_digit.true)

-- the first byte is a digit

pub overflow_add-i : goal.overflow_add-i
overflow_add-i c = let first : is_digit (get_or c.args.s.now c.args.at 0) ≡ true = sym (ap is_digit c.byte_at-b.ensures) ∙ sym c.is_digit.ensures ∙ c.if-not-is_digit.false in
    let a = c.args in omega (arith, digit_inside a.s.now a.at first)

pub overflow_sub-result : goal.overflow_sub-result
overflow_sub-result c = let first : is_digit (get_or c.args.s.now c.args.at 0) ≡ true = sym (ap is_digit c.byte_at-b.ensures) ∙ sym c.is_digit.ensures ∙ c.if-not-is_digit.false in
    omega (arith, digital _ first, c.byte_at-b.ensures)

pub returns-then-not-is_digit-2 : goal.returns-then-not-is_digit-2
returns-then-not-is_digit-2 c = let first : is_digit (get_or c.args.s.now c.args.at 0) ≡ true = sym (ap is_digit c.byte_at-b.ensures) ∙ sym c.is_digit.ensures ∙ c.if-not-is_digit.false in
    rw c.byte_at-b.ensures
    (digits_one _ _ first
    (sym (ap is_digit c.byte_at.ensures) ∙ sym c.is_digit-2.ensures ∙ c.if-not-is_digit-2.true))
