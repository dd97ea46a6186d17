-- `text::text_size` meets its contract. The invariant: what was counted and what the text from i on stands for make the whole.
-- Assumes nothing.
use mathlib.Core.Path.{◌≡◌}
use Prim.Native.Nat.{◌-◌, ◌+◌}
use lib.ListN.{length}
use Rattle.lists.specs.Text.{bytes_at}
use Rattle.lists.proofs.text.text_size.Given as goal

abbrev pub invariant-loop-e : goal.invariant-loop-e
invariant-loop-e l = l.n + length (bytes_at l.quoted l.s l.i) ≡ length (bytes_at l.quoted l.s l.at)

abbrev pub decreases-loop-e : goal.decreases-loop-e
decreases-loop-e l = length l.s - l.i
