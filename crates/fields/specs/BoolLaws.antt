-- Tests one beside the other.
-- Assumes nothing.
use Rattle.std.specs.Prelude.{◌≡◌, refl, Bool, true, false, ◌&&◌, ◌||◌, ◌⊎◌}
use Rattle.std.proofs.Common.{sym, inl, inr}
use Rattle.std.proofs.lemmas.Bool.{false≢true}

pub and_both : (x y : Bool) → x && y ≡ true → (x ≡ true) × (y ≡ true)
and_both true y h = (refl, h)
and_both false y h = absurd (false≢true h)

pub and_of : {x y : Bool} → x ≡ true → y ≡ true → x && y ≡ true
and_of h k = rw (h, k)

-- tests that are passed in the same cases are the same
pub both_ways : (x y : Bool) → (x ≡ true → y ≡ true) → (y ≡ true → x ≡ true) → x ≡ y
both_ways true true h k = refl
both_ways true false h k = absurd (false≢true (h refl))
both_ways false true h k = absurd (false≢true (k refl))
both_ways false false h k = refl

-- one of two, or neither
pub or_either : (x y : Bool) → x || y ≡ true → (x ≡ true) ⊎ (y ≡ true)
or_either true y h = inl refl
or_either false y h = inr h

pub or_neither : (x y : Bool) → x || y ≡ false → (x ≡ false) × (y ≡ false)
or_neither true y h = absurd (false≢true (sym h))
or_neither false y h = (refl, h)
