-- `list::items_from` meets its contract. The invariant: what is seen from i on, after what was seen before, is what is seen of the whole.
-- Assumes nothing.
use mathlib.Core.Path.{◌∙◌, sym, ap}
use native.Mathlib.Omega.{arith}
use Rattle.scan.specs.Bytes.{is_space}
use Rattle.scan.specs.RunLaws.{run_at_le}
use Rattle.lists.specs.Listed.{list_from}
use Rattle.lists.specs.ListLaws.{item_in, items_bad, items_last, items_left, items_on, list_more, list_last}
use Rattle.lists.proofs.list.items_from.Goals as goal

-- what is seen of the items from here on

pub returns-in_err-j : goal.returns-in_err-j
unfolding list_from
returns-in_err-j c = c.from_residual.ensures ∙ sym (c.loop-j.invariant.1 ∙ ap (list_from c.args.s.now c.args.flags c.loop-j.n c.loop-j.keyless c.loop-j.picked) (items_bad _ _ (sym c.item_end.ensures ∙ c.in_err-j.was)))

pub overflow_add-n : goal.overflow_add-n
overflow_add-n c = omega (arith, item_in c.args.s.now _ _ (sym c.item_end.ensures ∙ c.in_ok-j.was))

pub returns-then-k-s : goal.returns-then-k-s
returns-then-k-s c = sym
    (c.loop-j.invariant.1
    ∙ ap (list_from c.args.s.now c.args.flags c.loop-j.n c.loop-j.keyless c.loop-j.picked) (items_last _ _ _ (sym c.item_end.ensures ∙ c.in_ok-j.was) (sym c.skip_spaces-k.ensures ∙ c.if-k-s.true))
    ∙ list_last _ _ _ _ _ _
    ∙ rw (← c.keyless_by-keyless.ensures, ← c.passed-picked.ensures))

pub returns-then-k-j : goal.returns-then-k-j
unfolding list_from
returns-then-k-j c = let k = c.skip_spaces-k.ensures in
    sym (c.loop-j.invariant.1 ∙ ap (list_from c.args.s.now c.args.flags c.loop-j.n c.loop-j.keyless c.loop-j.picked) (items_left _ _ _ (sym c.item_end.ensures ∙ c.in_ok-j.was) (λ e. c.if-k-s.false (k ∙ e)) (sym k ∙ c.if-k-j.true)))

pub loop-j-smaller : goal.loop-j-smaller
loop-j-smaller c = let k = c.skip_spaces-k.ensures in
    let s = c.args.s.now in
    omega (arith, item_in s _ _ (sym c.item_end.ensures ∙ c.in_ok-j.was), k, run_at_le is_space s c.in_ok-j.j)

pub loop-j-preserved : goal.loop-j-preserved
loop-j-preserved c = let k = c.skip_spaces-k.ensures in
    let s = c.args.s.now in
    let l = c.loop-j in (
      omega (arith, item_in s _ _ (sym c.item_end.ensures ∙ c.in_ok-j.was), k, run_at_le is_space s c.in_ok-j.j, l.invariant.0),
      l.invariant.1
          ∙ ap (list_from c.args.s.now c.args.flags c.loop-j.n c.loop-j.keyless c.loop-j.picked) (items_on _ _ _ (sym c.item_end.ensures ∙ c.in_ok-j.was) (λ e. c.if-k-s.false (k ∙ e)) (λ e. c.if-k-j.false (k ∙ e)))
          ∙ list_more _ _ _ _ _ _ _
          ∙ rw (← c.keyless_by-keyless.ensures, ← c.passed-picked.ensures, ← k),
    )
