-- Laws of the exclusive or that the libraries have not: of more than two numbers, and by low and high digits.
-- Assumes nothing.
use Rattle.std.specs.Prelude.{◌≡◌, ℕ, zero, suc, ◌+◌, ◌*◌, ◌/◌, ◌%◌, ◌<◌}
use Rattle.std.proofs.Common.{sym, ap, ◌∙◌, div-add-mod', arith}
use Rattle.std.specs.Int.Bits.{bit_xor, xor_assoc, xor_self, xor_shifted}
use Rattle.std.proofs.lemmas.Nat.{xor_comm}

-- a digit is 0 or 1
module _ (A : ℕ → Type 0) (zeroth : A 0) (first : A 1) where
  pub by_digit : (x : ℕ) → x < 2 → A x
  by_digit zero h = zeroth
  by_digit (suc zero) h = first
  by_digit (suc (suc x)) h = absurd (omega arith)

-- in any order
pub xor_left : (a b c : ℕ) → bit_xor a (bit_xor b c) ≡ bit_xor b (bit_xor a c)
xor_left a b c = sym (xor_assoc a b c) ∙ ap (λ n. bit_xor n c) (xor_comm a b) ∙ xor_assoc b a c

-- what is in twice is out
pub xor_twice : (p a b : ℕ) → bit_xor (bit_xor p a) (bit_xor p b) ≡ bit_xor a b
xor_twice p a b = xor_assoc p a (bit_xor p b) ∙ ap (bit_xor p) (xor_left a p b) ∙ sym (xor_assoc p p (bit_xor a b)) ∙ ap (λ n. bit_xor n (bit_xor a b)) (xor_self p)

-- a number above a byte
pub xor_above : (a b : ℕ) → b < 256 → bit_xor (a * 256) b ≡ b + 256 * a
xor_above a b h = xor_shifted a 8 b h ∙ omega arith

-- a number by its low byte and the others
pub xor_parts : (x : ℕ) → x ≡ bit_xor (x % 256) (x / 256 * 256)
xor_parts x = let h : x % 256 < 256 = omega arith in sym (xor_comm (x % 256) (x / 256 * 256) ∙ xor_shifted (x / 256) 8 (x % 256) h ∙ div-add-mod' x 256)
