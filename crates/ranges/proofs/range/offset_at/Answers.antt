-- `range::offset_at` meets its contract.
-- Assumes nothing.
use mathlib.Core.Path.{◌≡◌, ◌∙◌, sym, ap}
use mathlib.Core.Bool.{true}
use native.Mathlib.Omega.{arith}
use lib.ListN.{get_or}
use Rattle.scan.specs.Bytes.{is_digit}
use Rattle.scan.specs.DigitsLaws.{digital, digit_inside, digits_none, digits_one}
use Rattle.ranges.specs.Offset.{offset_of, offset_at}
use Rattle.std.proofs.lemmas.Result.{err_from_is_err_and}
use Rattle.ranges.proofs.range.offset_at.Goals as goal

pub returns-then-not-is_digit : goal.returns-then-not-is_digit
unfolding offset_at offset_of
returns-then-not-is_digit c = rw c.byte_at-b.ensures
    (ap (offset_of _ _)
    (digits_none _ _ (sym (ap is_digit c.byte_at-b.ensures) ∙ sym c.is_digit.ensures ∙ c.if-not-is_digit.true)))

-- the first byte is a digit

pub overflow_add-i : goal.overflow_add-i
overflow_add-i c = let first : is_digit (get_or c.args.s.now c.args.at 0) ≡ true = sym (ap is_digit c.byte_at-b.ensures) ∙ sym c.is_digit.ensures ∙ c.if-not-is_digit.false in
    let a = c.args in omega (arith, digit_inside a.s.now a.at first)

pub overflow_sub-result : goal.overflow_sub-result
overflow_sub-result c = let first : is_digit (get_or c.args.s.now c.args.at 0) ≡ true = sym (ap is_digit c.byte_at-b.ensures) ∙ sym c.is_digit.ensures ∙ c.if-not-is_digit.false in
    omega (arith, digital _ first, c.byte_at-b.ensures)

pub returns-then-not-is_digit-2 : goal.returns-then-not-is_digit-2
unfolding offset_at offset_of
returns-then-not-is_digit-2 c = let first : is_digit (get_or c.args.s.now c.args.at 0) ≡ true = sym (ap is_digit c.byte_at-b.ensures) ∙ sym c.is_digit.ensures ∙ c.if-not-is_digit.false in
    rw (c.byte_at-b.ensures, c.byte_at-c.ensures)
    (ap (offset_of _ _)
    (digits_one _ _ first
    (sym (ap is_digit c.byte_at-c.ensures) ∙ sym c.is_digit-2.ensures ∙ c.if-not-is_digit-2.true)))

pub returns-in_err-n : goal.returns-in_err-n
unfolding offset_at offset_of
returns-in_err-n c =
    let p = err_from_is_err_and c.from_residual.result c.from_residual.ensures.1 in
    rw (p.1, p.2, ← c.in_err-n.ensures)

pub returns-in-Some : goal.returns-in-Some
unfolding offset_at offset_of
returns-in-Some c = rw (c.byte_at.ensures, ← c.in_ok-n.ensures, c.in-Some.is)

pub returns-in-None : goal.returns-in-None
unfolding offset_at offset_of
returns-in-None c = rw (c.byte_at-b.ensures, ← c.in_ok-n.ensures, c.in-None.is)
