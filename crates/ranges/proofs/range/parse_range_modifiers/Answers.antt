-- `range::parse_range_modifiers` meets its contract. The invariant: b stands at i, and the offsets from i on end where those from the start do.
-- Assumes nothing.
use mathlib.Core.Path.{◌≡◌, ◌∙◌, sym, ap}
use mathlib.Core.Bool.{true}
use Prim.Native.Nat.{◌+◌}
use native.Mathlib.Omega.{arith}
use lib.ListN.{get_or}
use Rattle.ranges.specs.Range.{is_sign}
use Rattle.ranges.specs.OffsetLaws.{sign_inside, offset_large}
use Rattle.ranges.proofs.RangeLaws.{offsets_at_none, offsets_at_large, offsets_at_next}
use Rattle.std.proofs.lemmas.Result.{err_from_is_err_and}
use Rattle.ranges.proofs.range.parse_range_modifiers.Goals as goal

pub returns-then-not-is_sign : goal.returns-then-not-is_sign
returns-then-not-is_sign c = let l = c.loop-at in
    sym (l.invariant.1 ∙ offsets_at_none _ _ (sym (ap is_sign l.invariant.0) ∙ sym c.is_sign.ensures ∙ c.if-not-is_sign.true))

-- a sign stands at i

pub overflow_add-i : goal.overflow_add-i
overflow_add-i c = let signed : is_sign (get_or c.args.s.now c.loop-at.i 0) ≡ true = sym (ap is_sign c.loop-at.invariant.0) ∙ sym c.is_sign.ensures ∙ c.if-not-is_sign.false in
    omega (arith, sign_inside c.args.s.now c.loop-at.i signed)

pub returns-in_err-j : goal.returns-in_err-j
returns-in_err-j c =
    let signed : is_sign (get_or c.args.s.now c.loop-at.i 0) ≡ true = sym (ap is_sign c.loop-at.invariant.0) ∙ sym c.is_sign.ensures ∙ c.if-not-is_sign.false in
    let s = c.args.s.now in
    let l = c.loop-at in
    let p = err_from_is_err_and c.from_residual.result c.from_residual.ensures.1 in
    rw (p.1, p.2, l.invariant.1, offsets_at_large s l.i (sign_inside s l.i signed) signed (offset_large s (l.i + 1) (sym c.in_err-j.ensures)))

-- the offset at i is passed

pub loop-at-smaller : goal.loop-at-smaller
loop-at-smaller c =
    let signed : is_sign (get_or c.args.s.now c.loop-at.i 0) ≡ true = sym (ap is_sign c.loop-at.invariant.0) ∙ sym c.is_sign.ensures ∙ c.if-not-is_sign.false in
    let passed = offsets_at_next _ _ _ _ _ signed (sym c.in_ok-j.ensures) in
    omega (arith, passed.later, passed.within)

pub loop-at-preserved : goal.loop-at-preserved
loop-at-preserved c =
    let signed : is_sign (get_or c.args.s.now c.loop-at.i 0) ≡ true = sym (ap is_sign c.loop-at.invariant.0) ∙ sym c.is_sign.ensures ∙ c.if-not-is_sign.false in
    let passed = offsets_at_next _ _ _ _ _ signed (sym c.in_ok-j.ensures) in
    (passed.byte, c.loop-at.invariant.1 ∙ passed.goes)
