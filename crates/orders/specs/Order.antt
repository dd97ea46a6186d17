-- The orders of up to five things by number: the first is that of the line, and later ones follow as words in a dictionary do. What is said
-- of them as a whole stands in OrderLaws.
-- Assumes nothing.
use Rattle.std.specs.Prelude.{ℕ, zero, suc, ◌*◌, true, false, cond, List, [], ◌∷◌, map, ◌==◌, nat_le, slice_index_or}
use mathlib.Core.List.{flat_map}

-- the numbers from i on, of which there are k
unfoldable pub numbers_from : ℕ → ℕ → List ℕ
numbers_from i zero = []
numbers_from i (suc k) = i ∷ numbers_from (suc i) k

-- all things but x
unfoldable pub without : ℕ → List ℕ → List ℕ
without x [] = []
without x (y ∷ ys) = elim (x == y) [ true ↦ without x ys | false ↦ y ∷ without x ys ]

-- the orders of k things: each of them first, in turn, and behind it the orders of the others
unfoldable pub orders_from : ℕ → List ℕ → List (List ℕ)
orders_from zero xs = [] ∷ []
orders_from (suc k) xs = flat_map (λ (x : ℕ). map (λ (o : List ℕ). x ∷ o) (orders_from k (without x xs))) xs

-- the order of `count` things that has the number n: which of them comes first, second and so on
unfoldable pub order_of : ℕ → ℕ → List ℕ
order_of count n = slice_index_or (orders_from count (numbers_from 0 count)) n []

-- 1 · 2 · .. · n
unfoldable pub factorial : ℕ → ℕ
factorial zero = 1
factorial (suc n) = suc n * factorial n

-- how many orders are told of n things: more than five are not put in order
unfoldable pub orders_of : ℕ → ℕ
orders_of n = cond (nat_le n 5) (factorial n) 1
