-- Classes that are parts of others.
-- Assumes nothing.
use Rattle.std.specs.Prelude.{ℕ, Bool, not, ◌||◌, eqb}

-- all but 0x09, 0x0A and space
abbrev pub no_blank : ℕ → Bool
no_blank b = not (eqb b 0x09 || eqb b 0x0A || eqb b 0x20)

-- all but `|`, `"` and the backslash
abbrev pub no_sign : ℕ → Bool
no_sign b = not (eqb b 0x7C || eqb b 0x22 || eqb b 0x5C)
