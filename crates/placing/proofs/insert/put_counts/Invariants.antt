-- `insert::put_counts` meets its contract. The invariant: the counts from k on are left to write.
-- Assumes nothing.
use mathlib.Core.List.{◌∷◌, []}
use Prim.Native.Nat.{◌+◌, ◌-◌, ◌≤◌}
use Rattle.limits.specs.Limits.{word_limit}
use Rattle.store.specs.Splice.{Writing}
use Rattle.tables.specs.Table.{counts_from}
use Rattle.placing.proofs.insert.put_counts.Given as goal

abbrev pub invariant-loop-k : goal.invariant-loop-k
invariant-loop-k l = Writing l.initial.b l.at (counts_from word_limit 1 (l.m ∷ [])) l.b (l.at + l.k) (counts_from (word_limit - l.k) (l.k + 1) (l.m ∷ [])) × (l.k ≤ word_limit)
