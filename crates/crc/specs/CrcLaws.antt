-- Laws of CRC-32: a text from a place on.
-- Assumes nothing.
use Rattle.std.specs.Prelude.{◌≡◌, List, ℕ, ◌+◌, ◌<◌, ◌≤◌, length, get_or, drop}
use Rattle.std.proofs.Common.{add-one, drop_of_length-le, drop-cons}
use Rattle.crc.specs.Crc.{crc_byte, crc_from}

-- one byte more
pub from_on : (d : ℕ) (s : List ℕ) (i : ℕ) → i < length s → crc_from d (drop i s) ≡ crc_from (crc_byte d (get_or s i 0)) (drop (i + 1) s)
unfolding crc_from
from_on d s i h = rw (add-one, drop-cons s i 0)

-- no byte is left
pub from_end : (d : ℕ) (s : List ℕ) (i : ℕ) → length s ≤ i → crc_from d (drop i s) ≡ d
unfolding crc_from
from_end d s i h = rw (drop_of_length-le s h)
