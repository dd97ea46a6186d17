-- What a byte of a table may be that is none of a word's.
-- Assumes nothing.
use Rattle.std.specs.Prelude.{ℕ, Bool, nat_le}
use Rattle.limits.specs.Limits.{last_command}

-- a command's number
unfoldable pub is_command : ℕ → Bool
is_command b = nat_le b last_command
