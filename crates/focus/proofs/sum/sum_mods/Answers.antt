-- `sum::sum_mods` meets its contract. The invariant: b stands at i, and the sum so far and the offsets from i on are the sum of all.
-- Assumes nothing.
use mathlib.Core.Path.{◌≡◌, ◌∙◌, sym, ap}
use mathlib.Core.Bool.{true}
use Prim.Native.Nat.{ℕ, ◌+◌}
use mathlib.Core.List.{List}
use native.Mathlib.Omega.{arith}
use lib.Dec.{eqb}
use lib.ListN.{get_or}
use Rattle.ranges.specs.Range.{is_sign}
use Rattle.ranges.specs.OffsetLaws.{Passed, sign_inside, offset_large}
use Rattle.ranges.specs.Offset.{offset_at}
use Rattle.ranges.specs.declared.range.MoveDir1D.{MoveDir1D}
use Rattle.focus.specs.Sum.{Sum, add_is, add_to, sum_at, sum_of}
use Rattle.focus.specs.SumLaws.{sum_none, sum_large, sum_next, add_over, sum_over}
use Rattle.focus.proofs.sum.sum_mods.Goals as goal
use Rattle.std.specs.Prelude.{Ok, Err}
use Rattle.std.proofs.lemmas.Result.{err_from_is_err_and}

-- the offset at i is passed
passed : (s : List ℕ) (d : MoveDir1D) (n i k j x : ℕ) → is_sign (get_or s i 0) ≡ true → Ok (k, j, x) ≡ offset_at s (i + 1) →
    Passed s i k j x (sum_at (Ok (d, n)) s i) (λ m l. sum_at (add_to (Ok (d, n)) (eqb (get_or s i 0) 0x2B) m) s l)
passed s d n i k j x t o = sum_next (Ok (d, n)) s i k j x t (sym o)

-- the sum from the offset on, by the offset
added : (s : List ℕ) (d : MoveDir1D) (n i b k j x : ℕ) → b ≡ get_or s i 0 → is_sign (get_or s i 0) ≡ true → Ok (k, j, x) ≡ offset_at s (i + 1) →
    sum_at (Ok (d, n)) s i ≡ sum_at (add_is d n (eqb b 0x2B) k) s j
unfolding add_to
added s d n i b k j x e t o = rw e ((passed s d n i k j x t o).goes)

pub loop-d-init : goal.loop-d-init
unfolding sum_of
loop-d-init c = (c.byte_at-b.ensures, c.sum_pairs-g.ensures)

pub returns-then-not-is_sign : goal.returns-then-not-is_sign
unfolding sum_of
returns-then-not-is_sign c = let l = c.loop-d in
    sym (l.invariant.1 ∙ sum_none _ _ _ (sym (ap is_sign l.invariant.0) ∙ sym c.is_sign.ensures ∙ c.if-not-is_sign.true))

-- a sign stands at i
pub overflow_add-i : goal.overflow_add-i
overflow_add-i c = let signed : is_sign (get_or c.args.s.now c.loop-d.i 0) ≡ true = sym (ap is_sign c.loop-d.invariant.0) ∙ sym c.is_sign.ensures ∙ c.if-not-is_sign.false in
    omega (arith, sign_inside c.args.s.now c.loop-d.i (signed))

pub returns-in_default : goal.returns-in_default
unfolding sum_of
returns-in_default c = let signed : is_sign (get_or c.args.s.now c.loop-d.i 0) ≡ true = sym (ap is_sign c.loop-d.invariant.0) ∙ sym c.is_sign.ensures ∙ c.if-not-is_sign.false in
    let s = c.args.s.now in
    let l = c.loop-d in
    let t = signed in
    sym (l.invariant.1 ∙ sum_large (Ok (l.d, l.n)) s l.i
    (sign_inside s l.i t) t (offset_large s (l.i + 1) (sym c.offset_at.ensures ∙ c.in_default.is)))

pub returns-in_err-e : goal.returns-in_err-e
unfolding sum_of
returns-in_err-e c =
    let signed : is_sign (get_or c.args.s.now c.loop-d.i 0) ≡ true = sym (ap is_sign c.loop-d.invariant.0) ∙ sym c.is_sign.ensures ∙ c.if-not-is_sign.false in
    let o : Ok (c.in-Ok.k, c.in-Ok.j, c.in-Ok.c) ≡ offset_at c.args.s.now (c.loop-d.i + 1) = sym c.in-Ok.is ∙ c.offset_at.ensures in
    let l = c.loop-d in
    let s = c.args.s.now in
    let j = c.in-Ok.j in
    let over = add_over l.d l.n (eqb l.b 0x2B) c.in-Ok.k (sym c.in_err-e.ensures) in
    let p = err_from_is_err_and c.from_residual.result c.from_residual.ensures.1 in
    rw (p.1, p.2, over)
    (sym
    (l.invariant.1
    ∙ added s l.d l.n l.i l.b c.in-Ok.k j c.in-Ok.c l.invariant.0 signed o
    ∙ ap (λ (a : Sum). sum_at a s j) (sym c.in_err-e.ensures ∙ ap Err over)
    ∙ sum_over s j))

pub loop-d-smaller : goal.loop-d-smaller
loop-d-smaller c =
    let signed : is_sign (get_or c.args.s.now c.loop-d.i 0) ≡ true = sym (ap is_sign c.loop-d.invariant.0) ∙ sym c.is_sign.ensures ∙ c.if-not-is_sign.false in
    let o : Ok (c.in-Ok.k, c.in-Ok.j, c.in-Ok.c) ≡ offset_at c.args.s.now (c.loop-d.i + 1) = sym c.in-Ok.is ∙ c.offset_at.ensures in
    let l = c.loop-d in
    let p = passed c.args.s.now l.d l.n l.i c.in-Ok.k c.in-Ok.j c.in-Ok.c signed o in
    omega (arith, p.later, p.within)

pub loop-d-preserved : goal.loop-d-preserved
loop-d-preserved c =
    let signed : is_sign (get_or c.args.s.now c.loop-d.i 0) ≡ true = sym (ap is_sign c.loop-d.invariant.0) ∙ sym c.is_sign.ensures ∙ c.if-not-is_sign.false in
    let o : Ok (c.in-Ok.k, c.in-Ok.j, c.in-Ok.c) ≡ offset_at c.args.s.now (c.loop-d.i + 1) = sym c.in-Ok.is ∙ c.offset_at.ensures in
    let l = c.loop-d in
    let s = c.args.s.now in
    let j = c.in-Ok.j in
    let p = passed s l.d l.n l.i c.in-Ok.k j c.in-Ok.c signed o in
    (p.byte, l.invariant.1 ∙ added s l.d l.n l.i l.b c.in-Ok.k j c.in-Ok.c l.invariant.0 signed o ∙ ap (λ (a : Sum). sum_at a s j) (sym c.in_ok-e.ensures))
