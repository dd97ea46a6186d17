-- `spellings::command_of` meets its contract. The invariant: the rows from `i` on lead the word where all rows do.
-- Assumes nothing.
use mathlib.Core.Path.{◌≡◌}
use Prim.Native.Nat.{◌-◌}
use lib.ListN.{length}
use Rattle.words.specs.Words.{lookup_in}
use Rattle.spellings.specs.Rows.{rows_of, rows_at}
use Rattle.spellings.proofs.command_of.Given as goal

abbrev pub invariant-loop-i : goal.invariant-loop-i
invariant-loop-i l = lookup_in (rows_at l.rows l.i) l.w ≡ lookup_in (rows_of l.rows) l.w

abbrev pub decreases-loop-i : goal.decreases-loop-i
decreases-loop-i l = length l.rows - l.i
