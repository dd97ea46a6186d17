-- What is said of the orders as a whole: each has each of the things once, the first is that of the line, and each other one comes behind
-- the one before it as words in a dictionary do. So no two are the same, and of up to five things there are as many as can be.
-- Assumes nothing.
use Rattle.std.specs.Prelude.{◌≡◌, ℕ, zero, suc, Bool, true, false, ◌&&◌, List, [], ◌∷◌, length, ◌==◌, nat_eq, refl}
use mathlib.Core.List.{flat_map}
use Rattle.words.specs.Words.{same}
use Rattle.words.specs.Order.{is_before}
use Rattle.orders.specs.Order.{numbers_from, without, orders_from, order_of, factorial, orders_of}

-- a test holds of each number below n
abbrev pub below : ℕ → (ℕ → Bool) → Bool
below zero f = true
below (suc n) f = f n && below n f

-- how many times x stands in a list
abbrev times : ℕ → List ℕ → ℕ
times x [] = 0
times x (y ∷ ys) = elim (x == y) [ true ↦ suc (times x ys) | false ↦ times x ys ]

-- a list of `count` numbers has each number below `count` once
abbrev pub each_once : ℕ → List ℕ → Bool
each_once count o = length o == count && below count (λ (x : ℕ). nat_eq (times x o) 1)

-- the first order is that of the line, and each other one comes behind the one before it
abbrev pub in_place : ℕ → ℕ → Bool
in_place count zero = same (order_of count 0) (numbers_from 0 count)
in_place count (suc n) = is_before (order_of count n) (order_of count (suc n))

-- there are as many orders of `count` things as can be, and each is right and in its place
abbrev pub all_right : ℕ → Bool
all_right count =
    (orders_of count == factorial count) && below (orders_of count) (λ (n : ℕ). each_once count (order_of count n) && in_place count n)

-- of 0 to 5 things
pub orders_right : below 6 all_right ≡ true
unfolding numbers_from without orders_from order_of factorial orders_of flat_map same is_before
orders_right = refl
