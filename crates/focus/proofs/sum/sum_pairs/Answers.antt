-- `sum::sum_pairs` meets its contract. The invariant: b is a sign and stands at i, and the sum so far and the offsets from i on are the sum
-- of all.
-- Assumes nothing.
use mathlib.Core.Path.{◌≡◌, refl, ◌∙◌, sym, ap}
use mathlib.Core.Bool.{true}
use Prim.Native.Nat.{ℕ, ◌-◌, ◌+◌}
use native.Mathlib.Omega.{arith}
use lib.Dec.{eqb}
use lib.ListN.{get_or}
use Rattle.scan.specs.Bytes.{is_digit}
use Rattle.scan.specs.DigitsLaws.{digital}
use Rattle.ranges.specs.Range.{is_sign}
use Rattle.ranges.specs.OffsetLaws.{sign_inside, pair_digit}
use Rattle.focus.specs.Sum.{Sum, add_is, add_to, sum_at, sum_of}
use Rattle.focus.specs.SumLaws.{sum_value}
use borrow.Author.Rules.{rules}
use Rattle.focus.proofs.sum.sum_pairs.Goals as goal
use Rattle.std.specs.Prelude.{Ok}

pub returns-then-s-lt-MANY : goal.returns-then-s-lt-MANY
unfolding sum_of
returns-then-s-lt-MANY c = refl

pub returns-then-not-is_sign : goal.returns-then-not-is_sign
unfolding sum_of
returns-then-not-is_sign c = refl

pub returns-then-not-is_digit : goal.returns-then-not-is_digit
unfolding sum_of
returns-then-not-is_digit c = search rules

pub returns-then-not-is_sign-2 : goal.returns-then-not-is_sign-2
unfolding sum_of
returns-then-not-is_sign-2 c = search rules

-- a digit stands at i + 1, and a sign behind it
pub overflow_sub-c : goal.overflow_sub-c
overflow_sub-c c = let digit : is_digit (get_or c.args.s.now (c.loop-i.i + 1) 0) ≡ true = sym c.is_digit.ensures ∙ c.if-not-is_digit.false in
    omega (arith, digital _ (digit))

pub returns-in_default : goal.returns-in_default
unfolding sum_of
returns-in_default c = search rules

pub loop-i-preserved : goal.loop-i-preserved
unfolding add_to
loop-i-preserved c = let digit : is_digit (get_or c.args.s.now (c.loop-i.i + 1) 0) ≡ true = sym c.is_digit.ensures ∙ c.if-not-is_digit.false in
    let sign : is_sign (get_or c.args.s.now (c.loop-i.i + 2) 0) ≡ true = sym c.is_sign-in-loop-i.ensures ∙ c.if-not-is_sign-2.false in
    let s = c.args.s.now in
    let l = c.loop-i in
    let t = l.invariant.2 in (
      l.invariant.0,
      refl,
      sign,
      l.invariant.3
          ∙ sum_value (Ok (l.d, l.n)) s l.i _ _ (sign_inside s l.i t) t (pair_digit s l.i (digit) (sign))
          ∙ ap (λ (b : ℕ). sum_at (add_is l.d l.n (eqb b 0x2B) (get_or s (l.i + 1) 0 - 48)) s (l.i + 2)) (sym l.invariant.1)
          ∙ ap (λ (a : Sum). sum_at a s (l.i + 2)) (sym c.add_is.ensures ∙ c.in-Ok.is),
    )

pub returns : goal.returns
unfolding sum_of
returns c = search rules
