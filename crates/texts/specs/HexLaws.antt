-- Laws of bytes as digits: one byte more of them.
-- Assumes nothing.
use Rattle.std.specs.Prelude.{◌≡◌, List, [], ◌∷◌, ◌++◌, ℕ, ◌+◌, ◌*◌, ◌/◌, ◌%◌, ◌<◌, length, take, drop, set}
use Rattle.std.proofs.Common.{◌∙◌, sym, ap, arith, length-set}
use Rattle.std.proofs.lemmas.List.{append_assoc, take_more_set}
use Rattle.texts.specs.Hex.{hex_digit, hex_of}

-- the digits of x are set behind those of the i bytes before it
pub hex_turn : (out s : List ℕ) (i x : ℕ) → 2 * i + 1 < length out → drop i s ≡ x ∷ drop (i + 1) s →
    take (2 * (i + 1)) (set (set out (2 * i) (hex_digit (x / 16))) (2 * i + 1) (hex_digit (x % 16))) ++ hex_of (drop (i + 1) s) ≡ take (2 * i) out ++ hex_of (drop i s)
unfolding hex_of
hex_turn out s i x h e =
    let a = hex_digit (x / 16) in
    let b = hex_digit (x % 16) in
    let r = hex_of (drop (i + 1) s) in
    let n : 2 * (i + 1) ≡ 2 * i + 1 + 1 = omega arith in
    ap (λ (m : ℕ). take m (set (set out (2 * i) a) (2 * i + 1) b) ++ r) n
    ∙ ap (λ t. t ++ r) (take_more_set (set out (2 * i) a) (2 * i + 1) b (omega (arith, length-set out (2 * i) a)) ∙ ap (λ t. t ++ (b ∷ [])) (take_more_set out (2 * i) a (omega arith)))
    ∙ append_assoc (take (2 * i) out ++ (a ∷ [])) (b ∷ []) r
    ∙ append_assoc (take (2 * i) out) (a ∷ []) (b ∷ r)
    ∙ ap (λ t. take (2 * i) out ++ hex_of t) (sym e)
