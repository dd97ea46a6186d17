-- How the code finds an order: thing after thing, each by how many of those that are not taken stand before it. What is so picked is
-- `order_of`: `picked_order` in PickingLaws.
-- Assumes nothing.
use Rattle.std.specs.Prelude.{ℕ, zero, suc, ◌+◌, ◌-◌, ◌/◌, ◌%◌, ◌^◌, min, Bool, true, false, not, set, replicate, ◌==◌, bit_and, bit_or}
use Rattle.orders.specs.Order.{orders_of}
use Rattle.orders.specs.declared.order.Picking.{Picking}

-- the weight of one of five in a set of them: 1, 2, 4, 8, 16
unfoldable pub weight_of : ℕ → ℕ
weight_of k = 2 ^ min k 4

-- one of five is in a set of them
unfoldable pub is_in : ℕ → ℕ → Bool
is_in set k = not (bit_and set (weight_of k) == 0)

-- of m from k on, the one that is not taken and has d such before it; the one behind them if there is none
unfoldable pub free_in : ℕ → ℕ → ℕ → ℕ → ℕ
free_in zero used k d = k
free_in (suc m) used k d =
    elim (is_in used k) [ true ↦ free_in m used (k + 1) d | false ↦ elim (d == 0) [ true ↦ k | false ↦ free_in m used (k + 1) (d - 1) ] ]

-- the same of all that are left from k on, where 4 is the last
unfoldable pub free_from : ℕ → ℕ → ℕ → ℕ
free_from used k d = free_in (4 - k) used k d

-- one more is taken, where `behind` follow it
unfoldable pub picked_of : Picking → ℕ → ℕ → Picking
picked_of p j behind =
    let k = free_from p.used 0 (p.rest / orders_of behind) in
    record { used = bit_or p.used (weight_of k); rest = p.rest % orders_of behind; order = set p.order j k }

-- m more are taken, from place j on
unfoldable pub picked_in : ℕ → ℕ → Picking → Picking
picked_in zero j p = p
picked_in (suc m) j p = picked_in m (j + 1) (picked_of p j m)

-- the same of all that are left of `count`
unfoldable pub picked_from : ℕ → ℕ → Picking → Picking
picked_from count j p = picked_in (count - j) j p

-- none is taken yet
abbrev pub unpicked : ℕ → Picking
unpicked n = record { used = 0; rest = n; order = replicate 5 0 }
