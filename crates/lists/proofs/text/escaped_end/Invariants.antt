-- `text::escaped_end` meets its contract. The invariant: at i stands a backslash, and the text from i on ends where the text from the start does.
-- Assumes nothing.
use mathlib.Core.Path.{◌≡◌}
use Prim.Native.Nat.{◌-◌}
use lib.ListN.{length}
use Rattle.scan.specs.Scan.{byte_at}
use Rattle.lists.specs.Text.{text_end_at}
use Rattle.lists.proofs.text.escaped_end.Given as goal

abbrev pub invariant-loop-e : goal.invariant-loop-e
invariant-loop-e l = (byte_at l.s l.i ≡ 0x5C) × (text_end_at l.quoted l.s l.at ≡ text_end_at l.quoted l.s l.i)

abbrev pub decreases-loop-e : goal.decreases-loop-e
decreases-loop-e l = length l.s - l.i
