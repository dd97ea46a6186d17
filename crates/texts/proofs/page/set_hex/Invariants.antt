-- `texts::page::set_hex` meets its contract. The invariant: the digits so far, and those of the bytes that are left.
-- Assumes nothing.
use Rattle.std.proofs.Common.{◌≡◌, ◌++◌, ◌*◌, length, take, drop}
use Rattle.texts.specs.Hex.{hex_of}
use Rattle.texts.proofs.page.set_hex.Given as goal

abbrev pub invariant-loop-i : goal.invariant-loop-i
invariant-loop-i l = (length l.out ≡ 2 * length l.s) × (take (2 * l.i) l.out ++ hex_of (drop l.i l.s) ≡ hex_of l.s)
