-- Laws of the classes that blocks are put to.
-- Assumes nothing.
use Rattle.std.specs.Prelude.{◌≡◌, refl, ◌&&◌, ◌||◌, not, eqb, Bool, true, false, List, [], ◌∷◌, ℕ, ◌<◌, length, get_or}
use Rattle.scan.specs.Bytes.{is_letter, is_plain, is_space, is_word}
use Rattle.blocks.specs.Test.{no_blank, no_sign}
use Rattle.std.specs.List.{list_all}
use Rattle.std.proofs.Common.{◌∙◌, sym, ap, arith}
use Rattle.std.proofs.lemmas.Bool.{false≢true}
use Rattle.std.proofs.Math.Decide.{dec_lt}
use Rattle.std.proofs.Math.ListN.{get_or-eq_default}

-- a letter is a word's
pub letter_word : (b : ℕ) → is_letter b ≡ true → is_word b ≡ true
unfolding is_word
letter_word b h = rw h

-- six tests, of which none passes
none_of_six : (a b c d e f : Bool) → (not (a || b || c) && not (d || e || f)) ≡ not (a || b || c || d || e || f)
none_of_six true b c d e f = refl
none_of_six false true c d e f = refl
none_of_six false false true d e f = refl
none_of_six false false false d e f = refl

-- what stands for itself in plain text is no blank and no sign
pub plain_both : (b : ℕ) → (no_blank b && no_sign b) ≡ is_plain b
unfolding is_plain
plain_both b = none_of_six (eqb b 0x09) (eqb b 0x0A) (eqb b 0x20) (eqb b 0x7C) (eqb b 0x22) (eqb b 0x5C)

and_swap : (x y z w : Bool) → ((x && y) && (z && w)) ≡ ((x && z) && (y && w))
and_swap false y z w = refl
and_swap true true z w = refl
and_swap true false true w = refl
and_swap true false false w = refl

pub plain_all : (s : List ℕ) → (list_all no_blank s && list_all no_sign s) ≡ list_all is_plain s
plain_all [] = refl
plain_all (b ∷ s) = and_swap (no_blank b) (list_all no_blank s) (no_sign b) (list_all no_sign s) ∙ rw (plain_both b, plain_all s)

-- a byte that passes a test which 0 fails stands within the text
pub inside : (p : ℕ → Bool) (s : List ℕ) (i : ℕ) → p 0 ≡ false → p (get_or s i 0) ≡ true → i < length s
inside p s i z e = go (dec_lt i (length s))
  where
    go : Dec (i < length s) → i < length s
    go (yes h) = h
    go (no h) = absurd (false≢true (sym z ∙ ap p (sym (get_or-eq_default s 0 (omega arith))) ∙ e))

-- a space does
pub space_inside : (s : List ℕ) (i : ℕ) → is_space (get_or s i 0) ≡ true → i < length s
unfolding is_space
space_inside s i e = inside is_space s i refl e
