-- `range::past_pairs` meets its contract. The invariant: a sign stands at i, and the offsets from i on end where those from the start do.
-- Assumes nothing.
use mathlib.Core.Path.{◌∙◌, sym}
use Rattle.ranges.specs.OffsetLaws.{sign_inside, pair_digit}
use Rattle.ranges.proofs.RangeLaws.{offsets_at_value}
use Rattle.ranges.proofs.range.past_pairs.Goals as goal

pub loop-i-preserved : goal.loop-i-preserved
loop-i-preserved c = let s = c.args.s.now in
    let l = c.loop-i in
    let d = sym c.is_digit.ensures ∙ c.if-not-is_digit.false in
    let e = sym c.is_sign-in-loop-i.ensures ∙ c.if-not-is_sign-2.false in
    (l.invariant.0, e, l.invariant.2 ∙ offsets_at_value s l.i _ _ (sign_inside s l.i l.invariant.1) l.invariant.1 (pair_digit s l.i d e))
