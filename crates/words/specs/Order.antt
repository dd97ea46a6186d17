-- The order of words: byte by byte, a word before those that it begins.
-- Assumes nothing.
use Rattle.std.specs.Prelude.{Bool, true, false, ◌&&◌, ◌||◌, List, [], ◌∷◌, ℕ, eqb, ltb}

unfoldable pub is_before : List ℕ → List ℕ → Bool
is_before v [] = false
is_before [] (y ∷ ys) = true
is_before (x ∷ xs) (y ∷ ys) = ltb x y || (eqb x y && is_before xs ys)
