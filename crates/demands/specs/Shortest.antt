-- The length of the shortest word that names a prefix, computed from a table of words, and the limit that it sets on readings; and the
-- aliases that a session can have. Document 01, section Session: "Up to 32 aliases are added, each 1 to 24 word characters".
-- Assumes nothing.
use Rattle.std.specs.Prelude.{◌≡◌, Bool, true, false, List, [], ◌∷◌, ℕ, ◌+◌, ◌/◌, min, length}
use Rattle.std.proofs.Math.Option.{Option, none, some}
use Rattle.words.specs.Words.{Row}
use Rattle.tables.specs.Table.{is_name}
use Rattle.commands.specs.Run.{role_named}
use Rattle.commands.specs.declared.next.Role.{Role}

-- the shortest word --------------------------------------------------------------------------------------------------------------------

-- whether a role is a prefix's
abbrev pub is_prefix : Role → Bool
is_prefix Role.Tab = true
is_prefix (Role.Axis a) = true
is_prefix (Role.Side d) = true
is_prefix Role.Action = false

-- whether a word names a prefix
unfoldable pub names_prefix : List Row → List ℕ → Bool
names_prefix table w = is_prefix (role_named table w)

-- the smaller of two lengths, if the first counts
abbrev pub smaller : Bool → ℕ → Option ℕ → Option ℕ
smaller false n o = o
smaller true n none = some n
smaller true n (some m) = some (min n m)

-- the length of the shortest word of the rows that passes a test
unfoldable pub shortest_of : (List ℕ → Bool) → List Row → Option ℕ
shortest_of f [] = none
shortest_of f (r ∷ rs) = smaller (f r.word) (length r.word) (shortest_of f rs)

unfoldable pub shortest : List Row → Option ℕ
shortest table = shortest_of (names_prefix table) table

-- how many readings a line of n bytes can take
abbrev pub limit : Option ℕ → ℕ → ℕ
limit none n = 1
limit (some m) n = (n + 1) / (m + 1) + 1

-- aliases ------------------------------------------------------------------------------------------------------------------------------

-- added aliases: each 1 to 24 word characters
abbrev pub Aliases : List Row → Type 0
Aliases [] = Unit {0}
Aliases (r ∷ rs) = (is_name r.word ≡ true) × Aliases rs
