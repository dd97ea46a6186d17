-- What equal answers say of what stands in them.
-- Assumes nothing.
use Rattle.std.specs.Prelude.{◌≡◌, Result, Ok, Option, Some}
use Rattle.std.proofs.lemmas.Option.{some_pair_parts}

-- two things found are equal in both parts
pub found_parts : {A B E : Type 0} (a x : A) (b y : B) → ◌≡◌ {A = Result (Option (A × B)) E} (Ok (Some (a, b))) (Ok (Some (x, y))) → (a ≡ x) × (b ≡ y)
found_parts a x b y e = some_pair_parts a x b y cc
