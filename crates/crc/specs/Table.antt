-- Bytes that are 0 passed, and the table by which sixteen bytes are passed at a time: what up to sixteen such bytes make of each byte.
-- Assumes nothing.
use Rattle.std.specs.Prelude.{◌≡◌, List, ℕ, zero, suc, ◌+◌, ◌/◌, ◌%◌, ◌<◌, get_or}
use Rattle.crc.specs.Crc.{crc_byte}

-- k bytes that are 0 passed
unfoldable pub passed : ℕ → ℕ → ℕ
passed zero c = c
passed (suc k) c = passed k (crc_byte c 0)

-- entry j of the table: what j / 256 + 1 bytes that are 0 make of the byte j % 256
unfoldable pub entry_of : ℕ → ℕ
entry_of j = passed (j / 256 + 1) (j % 256)

-- the rule of the table: each of its 4096 entries is the one of the place that it stands at
pub record Entries (table : List ℕ) : Type 0 where
  pub rule : (j : ℕ) → j < 4096 → get_or table j 0 ≡ entry_of j
