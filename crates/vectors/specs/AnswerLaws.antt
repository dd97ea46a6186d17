-- Laws of an answer as it is built.
-- Assumes nothing.
use Rattle.std.specs.Prelude.{◌≡◌, refl, ℕ, zero, suc, List, [], ◌∷◌, ◌++◌, ◌+◌, ◌-◌, ◌<◌, length, take, set}
use Rattle.std.proofs.Common.{◌∙◌, sym, ap, arith, take_all}
use Rattle.std.proofs.Math.Seq.{take-nil}
use Rattle.std.proofs.lemmas.List.{append_assoc, append-nil, length-take, length-append, take_more_set}
use Rattle.vectors.specs.Answer.{with}

-- the first n of two texts
first_of_two : (n : ℕ) (xs ys : List ℕ) → take n xs ++ take (n - length xs) ys ≡ take n (xs ++ ys)
first_of_two n [] ys = let e : n - 0 ≡ n = omega arith in rw (take-nil n, e) refl
first_of_two zero (x ∷ xs) ys = let e : 0 - suc (length xs) ≡ 0 = omega arith in rw e refl
first_of_two (suc n) (x ∷ xs) ys =
    let e : suc n - suc (length xs) ≡ n - length xs = omega arith in rw e (ap (λ zs. x ∷ zs) (first_of_two n xs ys))

-- more, and more behind it
pub with_then : (bytes xs ys : List ℕ) → with (with bytes xs) ys ≡ with bytes (xs ++ ys)
unfolding with
with_then bytes xs ys =
    let n = 4096 - length bytes in
    let e : 4096 - length (bytes ++ take n xs) ≡ n - length xs = omega (arith, length-append bytes (take n xs), length-take n xs) in
    rw e (append_assoc bytes (take n xs) (take (n - length xs) ys) ∙ ap (λ zs. bytes ++ zs) (first_of_two n xs ys))

-- nothing more
pub with_none : (bytes : List ℕ) → with bytes [] ≡ bytes
unfolding with
with_none bytes = rw (take-nil (4096 - length bytes)) (append-nil bytes)

-- one byte more, where there is room and where there is none
pub with_byte : (all : List ℕ) (n b : ℕ) → length all ≡ 4096 → n < 4096 → take (n + 1) (set all n b) ≡ with (take n all) (b ∷ [])
unfolding with
with_byte all n b h k =
    rw (take_all (4096 - length (take n all)) (b ∷ []) (omega (arith, length-take n all))) (take_more_set all n b (omega arith))

pub with_full : (bytes : List ℕ) (b : ℕ) → length bytes ≡ 4096 → bytes ≡ with bytes (b ∷ [])
unfolding with
with_full bytes b h = let e : 4096 - length bytes ≡ 0 = omega arith in rw e (sym (append-nil bytes))

-- two that follow one another: the form that a chain of calls has
pub with_after : {t u : List ℕ} (s xs ys : List ℕ) → t ≡ with s xs → u ≡ with t ys → u ≡ with s (xs ++ ys)
with_after s xs ys e f = f ∙ ap (λ bytes. with bytes ys) e ∙ with_then s xs ys
