-- `text::common` meets its contract: at the end of either text nothing is left to have in common.
-- Assumes nothing.
use Rattle.std.proofs.Common.{ℕ, eqb, drop, length-drop, arith}
use Rattle.std.proofs.lemmas.List.Sums.{common_prefix_len-le}
use Rattle.reports.proofs.text.common.Goals as goal

pub returns : goal.returns
returns c =
    let a = c.args.a.now in
    let b = c.args.b.now in
    let l = c.loop-i in
    let i : ℕ = l.i in
    omega (arith, l.invariant, common_prefix_len-le eqb (drop i a) (drop i b), length-drop i a, length-drop i b)
