-- `spots::bytes::utf8_end` meets its contract. The invariant: of more bytes than `i` from the front on, none are UTF-8.
-- Assumes nothing.
use Rattle.std.proofs.Common.{◌≤◌, length}
use Rattle.spots.specs.Utf8.{BadBehind}
use Rattle.spots.proofs.bytes.utf8_end.Given as goal

abbrev pub invariant-loop-i : goal.invariant-loop-i
invariant-loop-i l = (l.i ≤ length l.line) × BadBehind l.line l.i
