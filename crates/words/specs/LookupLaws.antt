-- Laws of words that are the same, and of lookup, row by row.
-- Assumes nothing.
use Rattle.std.specs.Prelude.{◌≡◌, refl, Bool, true, false, List, [], ◌∷◌, ◌++◌, ℕ, eqb, Option, Some, None}
use Rattle.std.proofs.Common.{◌∙◌, ap, eqb-true, eq-eqb}
use Rattle.std.proofs.lemmas.Bool.{false≢true}
use Rattle.scan.specs.RunLaws.{and_left, and_right}
use Rattle.words.specs.Words.{Row, same, lookup_in}

-- the same word
pub same_eq : (v w : List ℕ) → same v w ≡ true → v ≡ w
unfolding same
same_eq [] [] h = refl
same_eq [] (y ∷ w) h = absurd (false≢true h)
same_eq (x ∷ v) [] h = absurd (false≢true h)
same_eq (x ∷ v) (y ∷ w) h =
    ap (λ (n : ℕ). n ∷ v) (eqb-true x y (and_left (eqb x y) (same v w) h)) ∙ ap (λ r. y ∷ r) (same_eq v w (and_right (eqb x y) (same v w) h))

pub same_refl : (w : List ℕ) → same w w ≡ true
unfolding same
same_refl [] = refl
same_refl (x ∷ w) = rw (eq-eqb x x refl) (same_refl w)

-- the first row has the word, or it is passed
pub lookup_here : (r : Row) (rs : List Row) (w : List ℕ) → same w r.word ≡ true → lookup_in (r ∷ rs) w ≡ Some r.command
unfolding lookup_in
lookup_here r rs w h = rw (lookup_in, h)

pub lookup_past : (r : Row) (rs : List Row) (w : List ℕ) → same w r.word ≡ false → lookup_in (r ∷ rs) w ≡ lookup_in rs w
unfolding lookup_in
lookup_past r rs w h = rw (lookup_in, h)

-- the first rows come first
abbrev or_else : Option ℕ → Option ℕ → Option ℕ
or_else (Some n) m = Some n
or_else None m = m

pub lookup_append : (rs ts : List Row) (w : List ℕ) → lookup_in (rs ++ ts) w ≡ or_else (lookup_in rs w) (lookup_in ts w)
unfolding lookup_in
lookup_append [] ts w = refl
lookup_append (r ∷ rs) ts w = go (same w r.word) refl (lookup_append rs ts w)
  where
    go : (b : Bool) → same w r.word ≡ b → lookup_in (rs ++ ts) w ≡ or_else (lookup_in rs w) (lookup_in ts w) → lookup_in (r ∷ (rs ++ ts)) w ≡ or_else (lookup_in (r ∷ rs) w) (lookup_in ts w)
    go true e ih = lookup_here r (rs ++ ts) w e ∙ rw (lookup_here r rs w e)
    go false e ih = lookup_past r (rs ++ ts) w e ∙ ih ∙ rw (lookup_past r rs w e)
