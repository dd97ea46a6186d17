-- Laws of rows in bytes, over positions.
-- Assumes nothing.
use Rattle.std.specs.Prelude.{◌≡◌, refl, List, [], ◌∷◌, ℕ, zero, suc, ◌+◌, ◌-◌, ◌<◌, ◌≤◌, length, take, drop, get_or}
use Rattle.std.proofs.Common.{◌∙◌, ap, arith, drop_of_length-le, drop-drop, get_or-drop}
use Rattle.scan.specs.Scan.{byte_at, part_of}
use Rattle.scan.specs.RunLaws.{drop_step}
use Rattle.spellings.specs.Rows.{row, rows_from, rows_of, rows_at}

-- the row at position i, whose word is n bytes long -------------------------------------------------------------------------------------------

row_word : (s : List ℕ) (i n : ℕ) → take n (drop 1 (drop (i + 1) s)) ≡ part_of s (i + 2) (i + 2 + n)
row_word s i n =
    let e : n ≡ i + 2 + n - (i + 2) = omega arith in
    let f : i + 1 + 1 ≡ i + 2 = omega arith in
    ap (take n) (drop-drop 1 (i + 1) s ∙ ap (λ (k : ℕ). drop k s) f) ∙ ap (λ (k : ℕ). take k (drop (i + 2) s)) e

row_command : (s : List ℕ) (i : ℕ) → get_or (drop (i + 1) s) 0 0 ≡ byte_at s (i + 1)
row_command s i = let e : i + 1 + 0 ≡ i + 1 = omega arith in get_or-drop (i + 1) s 0 0 ∙ ap (λ (k : ℕ). get_or s k 0) e

row_rest : (s : List ℕ) (i n : ℕ) → drop (n + 1) (drop (i + 1) s) ≡ drop (i + 2 + n) s
row_rest s i n = let e : i + 1 + (n + 1) ≡ i + 2 + n = omega arith in drop-drop (n + 1) (i + 1) s ∙ ap (λ (k : ℕ). drop k s) e

-- rows ----------------------------------------------------------------------------------------------------------------------------------

-- k bytes passed are k bytes dropped
rows_skip : (k : ℕ) (xs : List ℕ) → rows_from k xs ≡ rows_from 0 (drop k xs)
unfolding rows_from
rows_skip zero xs = refl
rows_skip (suc k) [] = refl
rows_skip (suc k) (b ∷ bs) = rows_skip k bs

rows_cons : (n : ℕ) (bs : List ℕ) → rows_from 0 (n ∷ bs) ≡ row (take n (drop 1 bs)) (get_or bs 0 0) ∷ rows_from (n + 1) bs
unfolding rows_from
rows_cons n bs = refl

pub rows_start : (s : List ℕ) → rows_of s ≡ rows_at s 0
unfolding rows_of rows_at
rows_start s = refl

pub rows_end_lem : (s : List ℕ) (i : ℕ) → length s ≤ i → rows_at s i ≡ []
unfolding rows_at rows_from
rows_end_lem s i h = rw (drop_of_length-le s h)

-- a row and those behind it
pub rows_step : (s : List ℕ) (i : ℕ) → i < length s → rows_at s i ≡ row (part_of s (i + 2) (i + 2 + byte_at s i)) (byte_at s (i + 1)) ∷ rows_at s (i + 2 + byte_at s i)
unfolding rows_at
rows_step s i h = ap (rows_from 0) (drop_step s i h) ∙ go (byte_at s i)
  where
    go : (n : ℕ) → rows_from 0 (n ∷ drop (i + 1) s) ≡ row (part_of s (i + 2) (i + 2 + n)) (byte_at s (i + 1)) ∷ rows_from 0 (drop (i + 2 + n) s)
    go n = rows_cons n (drop (i + 1) s) ∙ rw (row_word s i n, row_command s i, rows_skip (n + 1) (drop (i + 1) s), row_rest s i n)
