-- Rows as bytes, one after the other: for each its word's length, its command and its word. Every list of bytes stands for some rows.
-- Assumes nothing.
use Rattle.std.specs.Prelude.{List, [], ◌∷◌, ℕ, zero, suc, ◌+◌, take, drop, get_or}
use Rattle.words.specs.Words.{Row}

abbrev pub row : List ℕ → ℕ → Row
row w c = record { word = w; command = c }

-- the rows that xs stands for, once k bytes of it are passed
unfoldable pub rows_from : ℕ → List ℕ → List Row
rows_from k [] = []
rows_from (suc k) (b ∷ bs) = rows_from k bs
rows_from zero (n ∷ bs) = row (take n (drop 1 bs)) (get_or bs 0 0) ∷ rows_from (n + 1) bs

unfoldable pub rows_of : List ℕ → List Row
rows_of s = rows_from 0 s

-- the rows from position i on
unfoldable pub rows_at : List ℕ → ℕ → List Row
rows_at s i = rows_from 0 (drop i s)
