-- `spellings::word_of` meets its contract.
-- Assumes nothing.
use Rattle.spellings.specs.Spellings.{word_of}
use Rattle.spellings.specs.Rows.{rows_of, rows_at}
use lib.ListN.{length}
use Prim.Native.Nat.{◌-◌}
use mathlib.Core.Path.{◌≡◌}
use Rattle.spellings.proofs.word_of.Given as goal

abbrev pub invariant-loop-i : goal.invariant-loop-i
invariant-loop-i l = word_of (rows_at l.rows l.i) l.n ≡ word_of (rows_of l.rows) l.n

abbrev pub decreases-loop-i : goal.decreases-loop-i
decreases-loop-i l = length l.rows - l.i
