-- Laws of the picking: one turn of each loop; and that what is picked is the order.
-- Assumes nothing.
use Rattle.std.specs.Prelude.{◌≡◌, ℕ, zero, suc, ◌+◌, ◌-◌, ◌/◌, ◌%◌, ◌<◌, ◌≤◌, min, Bool, true, false, ◌&&◌, List, take, ◌≢◌, bit_or, slice_set, refl}
use mathlib.Core.List.{flat_map}
use Rattle.std.proofs.Common.{arith}
use Rattle.std.proofs.Math.Decide.{dec_lt}
use borrow.Author.Tests.{eq-eqb, ne_eqb, lt-leb}
use Rattle.words.specs.Words.{same}
use Rattle.words.specs.LookupLaws.{same_eq}
use Rattle.orders.specs.Order.{numbers_from, without, orders_from, order_of, factorial, orders_of}
use Rattle.orders.specs.OrderLaws.{below}
use Rattle.orders.specs.Picking.{weight_of, is_in, free_in, free_from, picked_of, picked_in, picked_from, unpicked}
use Rattle.orders.specs.declared.order.Picking.{Picking}

-- no other number of things has more than one order that is told
pub orders_else : (n : ℕ) → (n ≢ 2) → (n ≢ 3) → (n ≢ 4) → (n ≢ 5) → orders_of n ≡ 1
unfolding orders_of factorial
orders_else zero a b c d = refl
orders_else (suc zero) a b c d = refl
orders_else (suc (suc zero)) a b c d = absurd (a refl)
orders_else (suc (suc (suc zero))) a b c d = absurd (b refl)
orders_else (suc (suc (suc (suc zero)))) a b c d = absurd (c refl)
orders_else (suc (suc (suc (suc (suc zero))))) a b c d = absurd (d refl)
orders_else (suc (suc (suc (suc (suc (suc n)))))) a b c d = rw (lt-leb (suc (suc (suc (suc (suc (suc n)))))) 5 (omega arith))

pub orders_some : (n : ℕ) → 1 ≤ orders_of n
unfolding orders_of factorial
orders_some zero = omega arith
orders_some (suc zero) = omega arith
orders_some (suc (suc zero)) = omega arith
orders_some (suc (suc (suc zero))) = omega arith
orders_some (suc (suc (suc (suc zero)))) = omega arith
orders_some (suc (suc (suc (suc (suc zero))))) = omega arith
orders_some (suc (suc (suc (suc (suc (suc n)))))) =
    rw (lt-leb (suc (suc (suc (suc (suc (suc n)))))) 5 (omega arith)) (omega arith)

-- the last of five
pub weight_last : (k : ℕ) → 4 ≤ k → weight_of k ≡ 16
unfolding weight_of
weight_last k h = let e : min k 4 ≡ 4 = omega arith in rw e

-- a turn of the search for one that is free
module _ (used k d : ℕ) (h : k < 4) where
  left : 4 - k ≡ suc (4 - (k + 1))
  left = omega arith

  pub free_taken : is_in used k ≡ true → free_from used k d ≡ free_from used (k + 1) d
  unfolding free_from free_in
  free_taken t = rw (left, t, free_in)

  pub free_here : is_in used k ≡ false → d ≡ 0 → free_from used k d ≡ k
  unfolding free_from free_in
  free_here t e = rw (left, t, eq-eqb d 0 e, free_in)

  pub free_past : is_in used k ≡ false → (d ≢ 0) → free_from used k d ≡ free_from used (k + 1) (d - 1)
  unfolding free_from free_in
  free_past t e = rw (left, t, ne_eqb d 0 e, free_in)

pub free_end : (used k d : ℕ) → k ≡ 4 → free_from used k d ≡ 4
unfolding free_from free_in
free_end used k d e = rw e

-- one more, by what is found of it
pub picked_as : (p : Picking) (j behind f k w : ℕ) (o : List ℕ) → f ≡ orders_of behind → k ≡ free_from p.used 0 (p.rest / f) → w ≡ weight_of k → o ≡ slice_set p.order j k →
    ◌≡◌ {A = Picking} (record { used = bit_or p.used w; rest = p.rest % f; order = o }) (picked_of p j behind)
unfolding picked_of
picked_as p j behind f k w o e g h i = rw (i, h, g, e)

-- a turn of the picking
pub picked_on : (count j behind : ℕ) (p : Picking) → j < count → behind ≡ count - 1 - j → picked_from count j p ≡ picked_from count (j + 1) (picked_of p j behind)
unfolding picked_from picked_in
picked_on count j behind p h e =
    let l : count - j ≡ suc behind = omega arith in
    let m : count - (j + 1) ≡ behind = omega arith in
    rw (l, m, picked_in)

pub picked_end : (count j : ℕ) (p : Picking) → count ≤ j → picked_from count j p ≡ p
unfolding picked_from picked_in
picked_end count j p h = let e : count - j ≡ 0 = omega arith in rw e

-- a test that holds of each number below n holds of one
pub at_below : (n : ℕ) (f : ℕ → Bool) → below n f ≡ true → (k : ℕ) → k < n → f k ≡ true
at_below zero f t k h = absurd (omega arith)
at_below (suc n) f t k h = go (f n) refl t (at_below n f) (dec_lt k n)
  where
    go : (b : Bool) → f n ≡ b → (b && below n f) ≡ true → (below n f ≡ true → (k : ℕ) → k < n → f k ≡ true) → Dec (k < n) → f k ≡ true
    go true e u r (yes p) = r u k p
    go true e u r (no p) = let q : k ≡ n = omega arith in rw q e
    go false e u r p = let z : ◌≡◌ {A = ℕ} 0 1 = cc in absurd (omega arith)

-- what is picked is the order
abbrev agree : ℕ → ℕ → Bool
agree count n = same (take count (picked_from count 0 (unpicked n)).order) (order_of count n)

all_agree_lem : below 6 (λ (count : ℕ). below (orders_of count) (agree count)) ≡ true
unfolding numbers_from without orders_from order_of factorial orders_of flat_map same weight_of is_in free_in free_from picked_of picked_in picked_from
all_agree_lem = refl

pub picked_order : (count n : ℕ) → count ≤ 5 → n < orders_of count → take count (picked_from count 0 (unpicked n)).order ≡ order_of count n
picked_order count n h k =
    let t = at_below 6 (λ (count : ℕ). below (orders_of count) (agree count)) all_agree_lem count (omega arith) in
    same_eq (take count (picked_from count 0 (unpicked n)).order) (order_of count n) (at_below (orders_of count) (agree count) t n k)
