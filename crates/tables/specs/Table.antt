-- A table: words with their commands, at most K of them, in bytes from T on. First how many there are, then how many of each length from
-- 1 to 24, then their commands in a row, then their words one after the other. Shorter words come first, those of one length by the number
-- that their bytes are, the first byte the lowest. Where there are no words only the first byte is used.
-- Assumes nothing.
use Rattle.std.specs.Prelude.{ℕ, zero, suc, ◌+◌, ◌*◌, Bool, true, cond, ◌&&◌, ◌||◌, List, [], ◌∷◌, ◌++◌, length, take, drop, ◌==◌, nat_le, nat_lt, slice_index}
use Rattle.limits.specs.Limits.{word_limit, last_command}
use Rattle.scan.specs.Bytes.{is_word}
use Rattle.scan.specs.Number.{number_of}
use Rattle.scan.specs.Scan.{run_at}
use Rattle.words.specs.Words.{Row}
use Rattle.fields.specs.Field.{Field, then_field, both, guarded, formed_as, only, byte_field, bytes_field}

-- which tables there are ------------------------------------------------------------------------------------------------------------------------

-- the order: shorter words first, those of one length by their numbers
unfoldable pub is_after : List ℕ → List ℕ → Bool
is_after v w = nat_lt (length v) (length w) || (length v == length w && nat_lt (number_of v) (number_of w))

-- "1 to 24 word characters"
unfoldable pub is_name : List ℕ → Bool
is_name w = nat_le 1 (length w) && nat_le (length w) word_limit && run_at is_word w 0 == length w

-- a row may stand after the word `before`
unfoldable pub good_row : List ℕ → Row → Bool
good_row before r = is_after before r.word && is_name r.word && nat_le r.command last_command

-- such rows, the first after the word `before`
unfoldable pub good_rows : List ℕ → List Row → Bool
good_rows before [] = true
good_rows before (r ∷ rs) = good_row before r && good_rows r.word rs

-- at most so many of them
unfoldable pub good_table : ℕ → List Row → Bool
good_table most rs = good_rows [] rs && nat_le (length rs) most

-- rows in parts ---------------------------------------------------------------------------------------------------------------------------------

unfoldable pub lengths_of : List Row → List ℕ
lengths_of [] = []
lengths_of (r ∷ rs) = length r.word ∷ lengths_of rs

unfoldable pub commands_of : List Row → List ℕ
commands_of [] = []
commands_of (r ∷ rs) = r.command ∷ commands_of rs

unfoldable pub words_of : List Row → List ℕ
words_of [] = []
words_of (r ∷ rs) = r.word ++ words_of rs

-- how many of these lengths are m; and for k lengths, from m on
unfoldable pub count_of : ℕ → List ℕ → ℕ
count_of m [] = 0
count_of m (l ∷ ls) = cond (l == m) 1 0 + count_of m ls

unfoldable pub counts_from : ℕ → ℕ → List ℕ → List ℕ
counts_from zero m ls = []
counts_from (suc k) m ls = count_of m ls ∷ counts_from k (suc m) ls

unfoldable pub repeated : ℕ → ℕ → List ℕ
repeated zero m = []
repeated (suc c) m = m ∷ repeated c m

-- the lengths that counts stand for, the first of them of m; and what numbers make together
unfoldable pub lengths_from : ℕ → List ℕ → List ℕ
lengths_from m [] = []
lengths_from m (c ∷ cs) = repeated c m ++ lengths_from (suc m) cs

unfoldable pub sum : List ℕ → ℕ
sum [] = 0
sum (x ∷ xs) = x + sum xs

-- words of these lengths, with these commands
unfoldable pub cut : List ℕ → List ℕ → List ℕ → List Row
cut [] cs ws = []
cut (l ∷ ls) cs ws = record { word = take l ws; command = slice_index cs 0 } ∷ cut ls (drop 1 cs) (drop l ws)

-- how many; the counts of lengths, none where there are no words; commands; words
abbrev pub Parts : Type 0
Parts = ℕ × (List ℕ × (List ℕ × List ℕ))

unfoldable pub parts_of : List Row → Parts
parts_of rs = (length rs, (cond (length rs == 0) [] (counts_from word_limit 1 (lengths_of rs)), (commands_of rs, words_of rs)))

unfoldable pub rows_in : Parts → List Row
rows_in x = cut (lengths_from 1 x.1.0) x.1.1.0 x.1.1.1

-- at most so many words, and as many as the counts say
unfoldable pub counted : ℕ → Parts → Bool
counted most x = nat_le x.0 most && sum x.1.0 == x.0

-- the field -------------------------------------------------------------------------------------------------------------------------------------

-- where the commands and the words of a table begin, and where it ends
abbrev pub commands_at : ℕ → ℕ
commands_at at = at + (1 + word_limit)

abbrev pub words_at : ℕ → ℕ → ℕ
words_at at most = at + (1 + word_limit) + most

abbrev pub table_end : ℕ → ℕ → ℕ
table_end at most = at + (1 + word_limit) + most + word_limit * most

unfoldable pub parts_field : ℕ → ℕ → Field Parts
parts_field at most =
    then_field (byte_field at) (λ n.
    then_field (bytes_field (at + 1) word_limit (cond (n == 0) 0 word_limit)) (λ cs.
    both (bytes_field (commands_at at) most n) (bytes_field (words_at at most) (word_limit * most) (sum (lengths_from 1 cs)))
    ) (table_end at most)
    ) (table_end at most)

-- all its bytes are there, and the counts say how many words there are
unfoldable pub framed : ℕ → ℕ → List ℕ → Bool
framed at most b = nat_le (table_end at most) (length b) && counted most ((parts_field at most).read b)

-- rows that are good, at most so many; bytes that are not framed have no rows and are not taken
unfoldable pub table : ℕ → ℕ → Field (List Row)
table at most = only (formed_as (guarded (parts_field at most) (λ x. counted most x && good_rows [] (rows_in x))) rows_in parts_of (good_table most)) (framed at most) []
