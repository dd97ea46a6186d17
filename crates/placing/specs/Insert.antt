-- What the code writes where it puts a word into a table.
-- Assumes nothing.
use Rattle.std.specs.Prelude.{◌≡◌, Bool, true, false, List, [], ◌∷◌, ◌++◌, ℕ, ◌+◌, ◌<◌, ◌≤◌, length, set}
use Rattle.std.proofs.lemmas.List.Edits.{sets}
use Rattle.limits.specs.Limits.{word_limit}
use Rattle.scan.specs.Scan.{byte_at, part_of}
use Rattle.tables.specs.Table.{good_rows, counts_from, sum, commands_at, words_at, framed as framed_of, table}
use Rattle.placing.specs.Change.{insert, is_full}
use Rattle.tables.specs.Walk.{lengths_at}

-- the first word: all counts are written
unfoldable pub with_first : ℕ → ℕ → List ℕ → ℕ → List ℕ → List ℕ
with_first at most w c b = sets (set (sets (set b at 1) (at + 1) (counts_from word_limit 1 (length w ∷ []))) (commands_at at) c) (words_at at most) w

-- one more: the number and the count of its length are one more; its command is the row-th, its word stands at `place`, those behind them move up
unfoldable pub with_new : ℕ → ℕ → ℕ → ℕ → List ℕ → ℕ → List ℕ → List ℕ
with_new at most row place w c b =
    sets (sets (set (set b at (byte_at b at + 1)) (at + length w) (byte_at b (at + length w) + 1))
    (commands_at at + row) (c ∷ part_of b (commands_at at + row) (commands_at at + byte_at b at)))
    place (w ++ part_of b place (words_at at most + sum (lengths_at b at 1)))

-- a table that has words, in order, and a word that could be one of them
pub record Among (at most : ℕ) (b w : List ℕ) : Type 0 where
  pub framed : framed_of at most b ≡ true
  pub some : 0 < byte_at b at
  pub small : most ≤ 255
  pub one : 1 ≤ length w
  pub short : length w ≤ word_limit
  pub good : good_rows [] ((table at most).read b) ≡ true

-- a table that has words and room for one more, and where that goes
pub record Opening (at most : ℕ) (b w : List ℕ) (row place : ℕ) : Type 0 where
  pub framed : framed_of at most b ≡ true
  pub some : 0 < byte_at b at
  pub room : byte_at b at < most
  pub small : most ≤ 255
  pub one : 1 ≤ length w
  pub short : length w ≤ word_limit
  pub above : row ≤ byte_at b at
  pub least : words_at at most ≤ place
  pub greatest : place ≤ words_at at most + sum (lengths_at b at 1)

-- where a word goes among others: its row, its place, and whether it is there already; and what follows
pub record Located (at most : ℕ) (b w : List ℕ) (row place : ℕ) (there : Bool) : Type 0 where
  pub above : row ≤ byte_at b at
  pub least : words_at at most ≤ place
  pub greatest : place ≤ words_at at most + sum (lengths_at b at 1)
  pub known : there ≡ true → is_full most ((table at most).read b) w ≡ false
  pub known_written : there ≡ true → (c : ℕ) → (table at most).write (insert w c ((table at most).read b)) b ≡ set b (commands_at at + row) c
  pub full : there ≡ false → most ≤ byte_at b at → is_full most ((table at most).read b) w ≡ true
  pub new : there ≡ false → byte_at b at < most → is_full most ((table at most).read b) w ≡ false
  pub new_written : there ≡ false → byte_at b at < most → (c : ℕ) → (table at most).write (insert w c ((table at most).read b)) b ≡ with_new at most row place w c b
