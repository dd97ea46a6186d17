-- Bytes as two hexadecimal digits each, in lower case.
-- Assumes nothing.
use Rattle.std.specs.Prelude.{cond, List, [], ◌∷◌, ℕ, ◌+◌, ◌/◌, ◌%◌, ltb}

-- the digit of a number below 16
unfoldable pub hex_digit : ℕ → ℕ
hex_digit n = cond (ltb n 10) (0x30 + n) (0x57 + n)

unfoldable pub hex_of : List ℕ → List ℕ
hex_of [] = []
hex_of (b ∷ s) = hex_digit (b / 16) ∷ hex_digit (b % 16) ∷ hex_of s
