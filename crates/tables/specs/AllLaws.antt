-- Bytes in a row that are all of one class are all of a wider one; a letter by its place in the alphabet, and a word's byte by comparisons;
-- classes told by a number.
-- Assumes nothing.
use Rattle.std.specs.Prelude.{◌≡◌, ℕ, ◌+◌, ◌-◌, ◌*◌, ◌/◌, ◌%◌, ◌^◌, ◌<◌, Bool, true, false, ◌&&◌, ◌||◌, List, [], ◌∷◌, ◌==◌, nat_eq, nat_le, nat_lt, length, take, max, get_or}
use Rattle.std.specs.List.{list_all}
use Rattle.std.proofs.Math.Path.{refl}
use Rattle.std.proofs.Common.{sym, ◌∙◌, ap, arith, lt-ltb, le-ltb, eqb-true, leb-true, leb-false, le-leb, ltb-true, ltb-false}
use Rattle.std.proofs.lemmas.Bool.{eqb-false, lt-leb}
use Rattle.std.proofs.Math.Bool.{or_assoc}
use Rattle.std.proofs.lemmas.List.Folds.{list_all_more}
use Rattle.scan.specs.Bytes.{within, is_letter, is_word}
use Rattle.fields.specs.BoolLaws.{and_both, and_of}

pub all_wider : (p q : ℕ → Bool) → ((b : ℕ) → p b ≡ true → q b ≡ true) → (xs : List ℕ) → list_all p xs ≡ true → list_all q xs ≡ true
all_wider p q f [] h = refl
all_wider p q f (x ∷ xs) h = let k = and_both (p x) (list_all p xs) h in and_of (f x k.0) (all_wider p q f xs k.1)

-- a letter is one of a word's
pub letter_word : (b : ℕ) → is_letter b ≡ true → is_word b ≡ true
unfolding is_word
letter_word b h = rw h

-- by its place r in the alphabet
pub letter_by : (b r : ℕ) → b < 2 ^ 8 → r < 2 ^ 8 → (r + 0x41) % 2 ^ 8 ≡ b - b / 32 % 2 * 32 → nat_lt r 26 ≡ is_letter b
letter_by b r l m e = go (nat_le 0x41 b) (nat_le b 0x5A) (nat_le 0x61 b) (nat_le b 0x7A) refl refl refl refl
  where
    go : (t u v w : Bool) → nat_le 0x41 b ≡ t → nat_le b 0x5A ≡ u → nat_le 0x61 b ≡ v → nat_le b 0x7A ≡ w → nat_lt r 26 ≡ (t && u) || (v && w)
    go true true v w a c d f = lt-ltb r 26 (omega (arith, e, leb-true 0x41 b a, leb-true b 0x5A c))
    go true false true true a c d f = lt-ltb r 26 (omega (arith, e, leb-true 0x61 b d, leb-true b 0x7A f))
    go true false true false a c d f = le-ltb r 26 (omega (arith, e, leb-false b 0x7A f))
    go true false false w a c d f = le-ltb r 26 (omega (arith, e, leb-false b 0x5A c, leb-false 0x61 b d))
    go false u true w a c d f = absurd (omega (arith, leb-false 0x41 b a, leb-true 0x61 b d))
    go false u false w a c d f = le-ltb r 26 (omega (arith, e, leb-false 0x41 b a))

-- a word's bytes: three of them stand in a row
three : (b : ℕ) → within 0x3C 0x3E b ≡ (b == 0x3C) || b == 0x3D || b == 0x3E
three b = go (b == 0x3C) (b == 0x3D) (b == 0x3E) refl refl refl
  where
    go : (x y z : Bool) → (b == 0x3C) ≡ x → (b == 0x3D) ≡ y → (b == 0x3E) ≡ z → within 0x3C 0x3E b ≡ x || y || z
    go true y z d e f = let q = eqb-true b 0x3C d in and_of (le-leb 0x3C b (omega arith)) (le-leb b 0x3E (omega arith))
    go false true z d e f = let q = eqb-true b 0x3D e in and_of (le-leb 0x3C b (omega arith)) (le-leb b 0x3E (omega arith))
    go false false true d e f = let q = eqb-true b 0x3E f in and_of (le-leb 0x3C b (omega arith)) (le-leb b 0x3E (omega arith))
    go false false false d e f = outside (nat_le 0x3C b) refl
      where
        outside : (t : Bool) → nat_le 0x3C b ≡ t → t && nat_le b 0x3E ≡ false
        outside true t = lt-leb b 0x3E (omega (arith, leb-true 0x3C b t, eqb-false b 0x3C d, eqb-false b 0x3D e, eqb-false b 0x3E f))
        outside false t = refl

pub word_is : (b : ℕ) → is_letter b || b == 0x23 || b == 0x26 || b == 0x2A || within 0x3C 0x3E b || b == 0x40 || (b == 0x7E) ≡ is_word b
unfolding is_word
word_is b =
    let x = is_letter b || b == 0x23 || b == 0x26 || nat_eq b 0x2A in
    ap (λ t. x || t || b == 0x40 || b == 0x7E) (three b)
    ∙ ap (λ t. t || b == 0x40 || b == 0x7E) (sym (or_assoc x (b == 0x3C || b == 0x3D) (b == 0x3E)) ∙ ap (λ t. t || b == 0x3E) (sym (or_assoc x (b == 0x3C) (b == 0x3D))))

-- by the greatest of a number for each, which is below 26 just for a byte of the class: one byte more
pub numbered_more : (p : ℕ → Bool) (m c i : ℕ) (xs : List ℕ) → i < length xs → nat_lt c 26 ≡ p (get_or xs i 0) → nat_lt m 26 ≡ list_all p (take i xs) →
    nat_lt (max m c) 26 ≡ list_all p (take (i + 1) xs)
numbered_more p m c i xs l e h = rw (list_all_more p xs i 0 l, ← h, ← e) (go (nat_lt m 26) (nat_lt c 26) refl refl)
  where
    go : (t u : Bool) → nat_lt m 26 ≡ t → nat_lt c 26 ≡ u → nat_lt (max m c) 26 ≡ t && u
    go true true a b = lt-ltb (max m c) 26 (omega (arith, ltb-true m 26 a, ltb-true c 26 b))
    go true false a b = le-ltb (max m c) 26 (omega (arith, ltb-false c 26 b))
    go false u a b = le-ltb (max m c) 26 (omega (arith, ltb-false m 26 a))
