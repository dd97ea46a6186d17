-- The item asked for, by how many are still ahead of it.
-- Assumes nothing.
use mathlib.Core.Path.{◌≡◌, refl}
use Prim.Native.Nat.{ℕ, zero, suc, ◌-◌}
use native.Mathlib.Omega.{arith}
use Rattle.lists.specs.Listed.{passing}
use Rattle.lists.specs.declared.list.Item.{Item}
use Rattle.lists.specs.declared.list.Picked.{Picked}

pub passing_here : (n : ℕ) (x : Item) → n ≡ 0 → Picked.Item x ≡ passing (Picked.Ahead n) x
unfolding passing
passing_here zero x e = refl
passing_here (suc n) x e = absurd (omega arith)

pub passing_ahead : (n : ℕ) (x : Item) → (n ≡ 0 → ⊥) → Picked.Ahead (n - 1) ≡ passing (Picked.Ahead n) x
unfolding passing
passing_ahead zero x e = absurd (e refl)
passing_ahead (suc n) x e = let z : suc n - 1 ≡ n = omega arith in rw z

pub passing_item : (y x : Item) → Picked.Item y ≡ passing (Picked.Item y) x
unfolding passing
passing_item y x = refl
