-- The limits of document 01: each has its name here, and in src/lib.rt the same for the code.
-- Assumes nothing.
use Rattle.std.specs.Prelude.{ℕ, ◌-◌, ◌^◌}

-- "Line above 1,024 bytes."
abbrev pub line_limit : ℕ
line_limit = 1024

-- "Store shorter than the line plus 40"
abbrev pub spare : ℕ
spare = 40

-- "each 1 to 24 word characters"
abbrev pub word_limit : ℕ
word_limit = 24

-- "Command number above 27."
abbrev pub last_command : ℕ
last_command = 27

-- "Up to 32 aliases are added"
abbrev pub alias_limit : ℕ
alias_limit = 32

-- "2^64 - 1"
abbrev pub most : ℕ
most = 2 ^ 64 - 1
