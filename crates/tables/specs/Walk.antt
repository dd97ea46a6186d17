-- What the code goes through: the lengths of a table's words from m on, the order of words without their commands, the words of one length.
-- Assumes nothing.
use Rattle.std.specs.Prelude.{ℕ, zero, suc, ◌+◌, Bool, true, cond, ◌&&◌, List, [], ◌∷◌, length, take, drop}
use Rattle.limits.specs.Limits.{word_limit}
use Rattle.scan.specs.Scan.{part_of}
use Rattle.words.specs.Words.{same}
use Rattle.tables.specs.Table.{is_after, lengths_from}

-- the lengths that the counts of a table stand for, from those of m on
abbrev pub lengths_at : List ℕ → ℕ → ℕ → List ℕ
lengths_at b at m = lengths_from m (part_of b (at + m) (at + (1 + word_limit)))

-- words of these lengths at the front of ws, each after the one before it, the first after v
unfoldable pub in_order : List ℕ → List ℕ → List ℕ → Bool
in_order v [] ws = true
in_order v (l ∷ ls) ws = is_after v (take l ws) && in_order (take l ws) ls (drop l ws)

-- among c words as long as w at the front of ws: the first that is w, or c
unfoldable pub seek : ℕ → List ℕ → List ℕ → ℕ
seek zero w ws = 0
seek (suc c) w ws = cond (same w (take (length w) ws)) 0 (suc (seek c w (drop (length w) ws)))

-- and the first that does not come before w, or c
unfoldable pub rank : ℕ → List ℕ → List ℕ → ℕ
rank zero w ws = 0
rank (suc c) w ws = cond (is_after (take (length w) ws) w) (suc (rank c w (drop (length w) ws))) 0
