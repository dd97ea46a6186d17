-- `more` meets its contract. The invariants: the number so far, with the bytes that are left.
-- Assumes nothing.
use Rattle.std.proofs.Common.{◌≡◌, ◌*◌, drop}
use Rattle.crc.specs.Crc.{crc_from}
use Rattle.crc.proofs.more.Given as goal

abbrev pub invariant-loop-k : goal.invariant-loop-k
invariant-loop-k l = crc_from l.d (drop (l.k * 16) l.s) ≡ crc_from l.c l.s

abbrev pub invariant-loop-i : goal.invariant-loop-i
invariant-loop-i l = crc_from l.d (drop l.i l.s) ≡ crc_from l.c l.s
