-- The shipped words once each, in byte order, and the name of a command. Document 01, section Commands: "68 different words".
-- Assumes nothing.
use Rattle.std.specs.Prelude.{true, false, cond, List, [], ◌∷◌, ℕ, eqb}
use Rattle.words.specs.Words.{Row, same}
use Rattle.words.specs.Order.{is_before}
use Rattle.spellings.specs.Rows.{row}

-- a word for the command c among rows in byte order: before the first that does not come before it, and in its place if it has the word
unfoldable pub insert_before : List ℕ → ℕ → List Row → List Row
insert_before w c [] = row w c ∷ []
insert_before w c (r ∷ rs) = cond (is_before r.word w) (r ∷ insert_before w c rs) (row w c ∷ cond (same w r.word) rs (r ∷ rs))

-- the rows in byte order of their words; of those with the same word the first
unfoldable pub in_order : List Row → List Row
in_order [] = []
in_order (r ∷ rs) = insert_before r.word r.command (in_order rs)

-- the word of the first row of a command, or no byte
unfoldable pub word_of : List Row → ℕ → List ℕ
word_of [] n = []
word_of (r ∷ rs) n = elim (eqb r.command n) [ true ↦ r.word | false ↦ word_of rs n ]
