-- The last bytes of a word as one number: those before a short word are left out of the eight that end with it.
-- Assumes nothing.
use Rattle.std.specs.Prelude.{ℕ, ◌-◌, ◌*◌, ◌/◌, ◌^◌, cond, List, length, drop, nat_lt}
use Rattle.scan.specs.Number.{number_of}
use Rattle.scan.specs.Scan.{part_of}

-- so many bits of eight bytes are not those of a word of m bytes that ends with them
unfoldable pub hidden_of : ℕ → ℕ
hidden_of m = cond (nat_lt m 8) (64 - 8 * m) 0

-- the eight bytes that end at e, without the lowest h bits
unfoldable pub tail_of : List ℕ → ℕ → ℕ → ℕ
tail_of b e h = number_of (part_of b (e - 8) e) / 2 ^ h * 2 ^ h

-- the same of a word: its last eight bytes, or all, above as many bits as it is short of
unfoldable pub key_of : List ℕ → ℕ
key_of w = number_of (drop (length w - 8) w) * 2 ^ hidden_of (length w)
