-- Worked examples, by computation: the check value that descriptions of CRC-32 give, and no byte.
-- Assumes nothing.
use Rattle.std.specs.Prelude.{◌≡◌, refl, [], ◌∷◌}
use Rattle.crc.specs.Crc.{crc_bit, crc_byte, crc_from, crc32}

-- the digits 1 to 9
pub crc_digits : crc32 (0x31 ∷ 0x32 ∷ 0x33 ∷ 0x34 ∷ 0x35 ∷ 0x36 ∷ 0x37 ∷ 0x38 ∷ 0x39 ∷ []) ≡ 0xCBF43926
unfolding crc32 crc_from crc_byte crc_bit
crc_digits = refl

pub crc_none : crc32 [] ≡ 0
unfolding crc32 crc_from crc_byte crc_bit
crc_none = refl
