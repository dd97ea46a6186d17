-- `spots::bytes::utf8_end` meets its contract. The invariant: of more bytes than `i` from the front on, none are UTF-8.
-- Assumes nothing.
use Rattle.std.proofs.Common.{◌≡◌, ◌-◌, arith}
use Rattle.spots.specs.Utf8Laws.{none_good}
use Rattle.spots.proofs.bytes.utf8_end.Goals as goal

pub returns : goal.returns
returns c = let z : c.loop-i.i ≡ 0 = omega arith in none_good _ (rw z at c.loop-i.invariant.1)
