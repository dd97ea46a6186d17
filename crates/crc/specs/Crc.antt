-- CRC-32, the one of ISO 3309 and of zip and PNG files: the polynomial 0xEDB88320 with the low bit first, started at and ended by 0xFFFFFFFF.
-- Assumes nothing.
use Rattle.std.specs.Prelude.{cond, List, [], ◌∷◌, ℕ, ◌/◌, ◌%◌, eqb}
use Rattle.std.specs.Int.Bits.{bit_xor}

-- one bit passed
unfoldable pub crc_bit : ℕ → ℕ
crc_bit c = cond (eqb (c % 2) 1) (bit_xor 0xEDB88320 (c / 2)) (c / 2)

-- one byte passed: its bits, the low one first
unfoldable pub crc_byte : ℕ → ℕ → ℕ
crc_byte c b = crc_bit (crc_bit (crc_bit (crc_bit (crc_bit (crc_bit (crc_bit (crc_bit (bit_xor b c))))))))

-- bytes passed, from c on
unfoldable pub crc_from : ℕ → List ℕ → ℕ
crc_from c [] = c
crc_from c (b ∷ bs) = crc_from (crc_byte c b) bs

-- the number that stands for the bytes
unfoldable pub crc32 : List ℕ → ℕ
crc32 s = bit_xor 0xFFFFFFFF (crc_from 0xFFFFFFFF s)
