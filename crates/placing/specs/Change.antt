-- A word put into a table, and one taken out of it. Document 01, section Session: "Adding one again replaces it."
-- Assumes nothing.
use Rattle.std.specs.Prelude.{Bool, true, false, cond, not, ◌&&◌, List, [], ◌∷◌, ℕ, leb, length, Option, Some, None}
use Rattle.limits.specs.Limits.{word_limit}
use Rattle.words.specs.Words.{Row, same, lookup_in}
use Rattle.tables.specs.Table.{is_after, table}

abbrev pub row : List ℕ → ℕ → Row
row w c = record { word = w; command = c }

-- among rows in order: in the place of the one with its word, or before the first that comes after it
unfoldable pub insert : List ℕ → ℕ → List Row → List Row
insert w c [] = row w c ∷ []
insert w c (r ∷ rs) = cond (is_after w r.word) (row w c ∷ r ∷ rs) (cond (same w r.word) (row w c ∷ rs) (r ∷ insert w c rs))

-- without the row that has the word, if there is one
unfoldable pub remove : List ℕ → List Row → List Row
remove w [] = []
remove w (r ∷ rs) = cond (same w r.word) rs (r ∷ remove w rs)

-- a word that no row has, where there are `most` already
abbrev is_new : Option ℕ → Bool → Bool
is_new (Some n) b = false
is_new None b = b

unfoldable pub is_full : ℕ → List Row → List ℕ → Bool
is_full most rs w = is_new (lookup_in rs w) (leb most (length rs))

-- in bytes: they are a table, with a place for a word of 1 to 24 bytes; and the bytes with it in its place, or as they were
unfoldable pub has_place : ℕ → ℕ → List ℕ → List ℕ → Bool
has_place at most w b = leb 1 (length w) && leb (length w) word_limit && (table at most).test b && not (is_full most ((table at most).read b) w)

unfoldable pub inserting : ℕ → ℕ → List ℕ → ℕ → List ℕ → List ℕ
inserting at most w c b = cond (has_place at most w b) ((table at most).write (insert w c ((table at most).read b)) b) b

-- a row has the word; and the bytes without it, or as they were
abbrev is_known : Option ℕ → Bool
is_known (Some n) = true
is_known None = false

unfoldable pub has_word : ℕ → ℕ → List ℕ → List ℕ → Bool
has_word at most w b = is_known (lookup_in ((table at most).read b) w)

unfoldable pub removing : ℕ → ℕ → List ℕ → List ℕ → List ℕ
removing at most w b = cond (has_word at most w b) ((table at most).write (remove w ((table at most).read b)) b) b
