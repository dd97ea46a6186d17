-- A fact about bytes, proved by one test that antt computes at each of the 256; and the table's rule, by one test at each of its entries.
-- Assumes nothing.
use mathlib.Core.Path.{◌≡◌, refl, subst}
use mathlib.Core.Bool.{Bool, true, false, beq}
use mathlib.Core.List.{List}
use Prim.Native.Nat.{ℕ, zero, suc, ◌<◌, ◌/◌, ◌%◌}
use native.Mathlib.Omega.{arith}
use native.Mathlib.Decide.{dec_lt}
use lib.Dec.{T, eqb, eqb→eq}
use lib.ListN.{length, get_or}
use Rattle.scan.specs.Bytes.{class_of, Classes, is_space, is_colon, is_digit, is_word, is_mark, is_text, is_plain, is_quoted}
use Rattle.scan.proofs.Table.{both, both_left, both_right, every, at}

-- the test passes at each number below n
abbrev below : ℕ → (ℕ → Bool) → Bool
below zero f = true
below (suc n) f = both (f n) (below n f)

step : (n k : ℕ) (f : ℕ → Bool) → T (f n) → (k < n → T (f k)) → k < suc n → Dec (k < n) → T (f k)
step n k f t r h (yes p) = r p
step n k f t r h (no p) = let e : n ≡ k = omega arith in subst (λ (m : ℕ). T (f m)) e t

at_below : (n : ℕ) (f : ℕ → Bool) → T (below n f) → (k : ℕ) → k < n → T (f k)
at_below zero f t k h = absurd (omega arith)
at_below (suc n) f t k h = step n k f (both_left (f n) (below n f) t) (at_below n f (both_right (f n) (below n f) t) k) h (dec_lt k n)

same : (a b : Bool) → T (beq a b) → a ≡ b
same true true t = refl
same true false t = absurd t
same false true t = absurd t
same false false t = refl

-- two tests agree at every byte
bytes_agree : (f g : ℕ → Bool) → T (below 256 (λ b. beq (f b) (g b))) → (b : ℕ) → b < 256 → f b ≡ g b
bytes_agree f g t b h = same (f b) (g b) (at_below 256 (λ b. beq (f b) (g b)) t b h)

-- a weight stands in the class of a byte just where the byte passes the rule
pub space_weight : (b : ℕ) → b < 256 → eqb (class_of b / 1 % 2) 1 ≡ is_space b
unfolding class_of is_space is_colon is_digit is_word is_mark is_text is_plain is_quoted
space_weight b h = bytes_agree (λ b. eqb (class_of b / 1 % 2) 1) is_space tt b h

pub colon_weight : (b : ℕ) → b < 256 → eqb (class_of b / 2 % 2) 1 ≡ is_colon b
unfolding class_of is_space is_colon is_digit is_word is_mark is_text is_plain is_quoted
colon_weight b h = bytes_agree (λ b. eqb (class_of b / 2 % 2) 1) is_colon tt b h

pub digit_weight : (b : ℕ) → b < 256 → eqb (class_of b / 4 % 2) 1 ≡ is_digit b
unfolding class_of is_space is_colon is_digit is_word is_mark is_text is_plain is_quoted
digit_weight b h = bytes_agree (λ b. eqb (class_of b / 4 % 2) 1) is_digit tt b h

pub word_weight : (b : ℕ) → b < 256 → eqb (class_of b / 8 % 2) 1 ≡ is_word b
unfolding class_of is_space is_colon is_digit is_word is_mark is_text is_plain is_quoted
word_weight b h = bytes_agree (λ b. eqb (class_of b / 8 % 2) 1) is_word tt b h

pub mark_weight : (b : ℕ) → b < 256 → eqb (class_of b / 16 % 2) 1 ≡ is_mark b
unfolding class_of is_space is_colon is_digit is_word is_mark is_text is_plain is_quoted
mark_weight b h = bytes_agree (λ b. eqb (class_of b / 16 % 2) 1) is_mark tt b h

pub text_weight : (b : ℕ) → b < 256 → eqb (class_of b / 32 % 2) 1 ≡ is_text b
unfolding class_of is_space is_colon is_digit is_word is_mark is_text is_plain is_quoted
text_weight b h = bytes_agree (λ b. eqb (class_of b / 32 % 2) 1) is_text tt b h

pub plain_weight : (b : ℕ) → b < 256 → eqb (class_of b / 64 % 2) 1 ≡ is_plain b
unfolding class_of is_space is_colon is_digit is_word is_mark is_text is_plain is_quoted
plain_weight b h = bytes_agree (λ b. eqb (class_of b / 64 % 2) 1) is_plain tt b h

pub quoted_weight : (b : ℕ) → b < 256 → eqb (class_of b / 128 % 2) 1 ≡ is_quoted b
unfolding class_of is_space is_colon is_digit is_word is_mark is_text is_plain is_quoted
quoted_weight b h = bytes_agree (λ b. eqb (class_of b / 128 % 2) 1) is_quoted tt b h

-- an entry is the class of the byte that it stands at
abbrev pub right : ℕ → ℕ → Bool
right b x = eqb x (class_of b)

-- the test of all entries together, carried to each
pub classes_rule : (table : List ℕ) → length table ≡ 256 → T (every right 0 table) → Classes table
classes_rule table e t = record { rule = λ b h. eqb→eq (get_or table b 0) (class_of b) (at right table t b (omega arith)) }
