-- `all::all_of_many` meets its contract.
-- Assumes nothing.
use Rattle.std.proofs.Common.{◌≡◌, true, ◌≤◌, ◌+◌, ◌-◌, ◌∙◌, sym, arith, length, rules}
use Rattle.std.proofs.lemmas.Bool.{false≢true}
use Rattle.blocks.specs.BlockLaws.{piece_more, all_ends}
use Rattle.blocks.proofs.all.all_of_many.Goals.{then-loop-m-test+else-s-i-ge128, else-loop-m-test}
use Rattle.blocks.proofs.all.all_of_many.Goals as goal

pub loop-m-preserved : goal.loop-m-preserved
loop-m-preserved g c = let l = c.loop-m in (
  search rules,
  search rules,
  c.all-m-in-loop-m.ensures
      ∙ (rw (sym l.invariant.2 ∙ c.loop-m-test.true) at (piece_more g.C.Class.rule c.args.s.now l.i l.i (l.i + 128) (omega arith) (omega arith))),
)

pub returns : goal.returns
returns g c =
    let l = c.loop-m in
    let s = c.args.s.now in
    let last : l.m ≡ true → length s - 128 ≤ l.i = elim c.loop-m-test.branch [
      | then-loop-m-test+else-s-i-ge128 w ↦ λ t. omega (arith, w.if-s-i-ge128.false)
      | else-loop-m-test w ↦ λ t. absurd (false≢true (sym w.loop-m-test.false ∙ t))
    ] in
    all_ends g.C.Class.rule s l.i (length s - 128) l.m c.all.result l.invariant.0 l.invariant.2 c.all.ensures last
