-- `insert::put_counts` meets its contract. The invariant: the counts from k on are left to write.
-- Assumes nothing.
use mathlib.Core.Path.{◌≡◌, sym, ◌∙◌, ap}
use mathlib.Core.List.{◌∷◌, []}
use Prim.Native.Nat.{ℕ, ◌+◌, ◌-◌}
use native.Mathlib.Omega.{arith}
use Rattle.limits.specs.Limits.{word_limit}
use Rattle.store.specs.Splice.{writing_byte, writing_end}
use Rattle.tables.specs.Table.{counts_from}
use Rattle.placing.specs.InsertLaws.{counts_step, counts_end}
use Rattle.placing.proofs.insert.put_counts.Goals as goal

pub loop-k-preserved : goal.loop-k-preserved
loop-k-preserved c = let a = c.args in
    let l = c.loop-k in
    let ls = a.m ∷ [] in
    let n : a.at + (l.k + 1) ≡ a.at + l.k + 1 = omega arith in
    let rest = counts_from (word_limit - (l.k + 1)) (l.k + 1 + 1) ls in
    let e = counts_step word_limit l.k ls c.loop-k-test.true ∙ ap (λ (x : ℕ). x ∷ rest) (sym c.count_of_one.ensures) in
    (rw n (writing_byte c.count_of_one.result rest e l.invariant.0), omega arith)

pub returns : goal.returns
returns c = let a = c.args in
    let l = c.loop-k in
    (writing_end (counts_end word_limit l.k (a.m ∷ []) c.loop-k-test.false) l.invariant.0).store
