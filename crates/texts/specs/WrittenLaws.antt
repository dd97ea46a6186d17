-- Laws of a text as it is written: nothing more, one after the other, what stays, and how a place of a buffer moves.
-- Assumes nothing.
use Rattle.std.specs.Prelude.{◌≡◌, refl, ℕ, zero, suc, List, [], ◌∷◌, ◌++◌, ◌+◌, ◌-◌, ◌<◌, ◌≤◌, length, take, drop, min, set, replicate}
use Rattle.std.proofs.Common.{◌∙◌, sym, ap, arith, length-set, take-take}
use Rattle.std.proofs.Math.Seq.{take-nil, take-append_seam}
use Rattle.std.proofs.lemmas.List.{append_assoc, append-nil, length-take, length-append, length-drop, take_all, take_min, take_more_set, take-replicate}
use Rattle.std.proofs.lemmas.Slice.{take-put_mid}
use borrow.Rule.Slice.PartMut.{put_mid, post_of}
use Rattle.texts.specs.Written.{Written, up_to, with, cut, Adds}

-- the first n of two texts
first_of_two : (n : ℕ) (xs ys : List ℕ) → take n xs ++ take (n - length xs) ys ≡ take n (xs ++ ys)
first_of_two n [] ys = let e : n - 0 ≡ n = omega arith in rw (take-nil n, e) refl
first_of_two zero (x ∷ xs) ys = let e : 0 - suc (length xs) ≡ 0 = omega arith in rw e refl
first_of_two (suc n) (x ∷ xs) ys =
    let e : suc n - suc (length xs) ≡ n - length xs = omega arith in rw e (ap (λ zs. x ∷ zs) (first_of_two n xs ys))

same_written : {a b : List ℕ} {m n : ℕ} → a ≡ b → m ≡ n → ◌≡◌ {A = Written} (record { bytes = a; room = m }) (record { bytes = b; room = n })
same_written e f = rw (e, f) refl

pub minus_zero : (n : ℕ) → n - 0 ≡ n
minus_zero n = omega arith

-- nothing more
pub with_none : (w : Written) → with w [] ≡ w
unfolding with
with_none w = same_written (rw (take-nil w.room) (append-nil w.bytes)) (minus_zero w.room)

-- where there is no room
pub with_full : (w : Written) (xs : List ℕ) → w.room ≡ 0 → w ≡ with w xs
unfolding with
with_full w xs h =
    let e : w.room - length xs ≡ w.room = omega arith in sym (same_written (rw h (append-nil w.bytes)) e)

-- a buffer whose text ends where it ends has no room
pub no_room : (all : List ℕ) (end : ℕ) (w : Written) → length all ≤ end → up_to all end ≡ w → w.room ≡ 0
unfolding up_to
no_room all end w h e = rw (← e) (omega arith)

-- more, and more behind it
pub with_then : (w : Written) (xs ys : List ℕ) → with (with w xs) ys ≡ with w (xs ++ ys)
unfolding with
with_then w xs ys =
    let e : w.room - length xs - length ys ≡ w.room - length (xs ++ ys) = omega (arith, length-append xs ys) in
    same_written
    (append_assoc w.bytes (take w.room xs) (take (w.room - length xs) ys) ∙ ap (λ zs. w.bytes ++ zs) (first_of_two w.room xs ys))
    e

-- two that follow one another: the form that a chain of calls has
pub with_after : {t u : Written} (s : Written) (xs ys : List ℕ) → t ≡ with s xs → u ≡ with t ys → u ≡ with s (xs ++ ys)
with_after s xs ys e f = f ∙ ap (λ w. with w ys) e ∙ with_then s xs ys

-- something is added
pub adds_more : {a b : Written} (xs : List ℕ) → b ≡ with a xs → Adds a b
adds_more xs e = record { more = xs; is = e }

-- nothing is added
pub adds_none : (w : Written) → Adds w w
adds_none w = adds_more [] (sym (with_none w))

-- what is added to what was added is added
pub adds_then : {a b c : Written} → Adds a b → Adds b c → Adds a c
adds_then {a} p q = adds_more (p.more ++ q.more) (with_after a p.more q.more p.is q.is)

pub adds_third : {a b c d : Written} → Adds a b → Adds b c → Adds c d → Adds a d
adds_third p q r = adds_then (adds_then p q) r

pub adds_fourth : {a b c d e : Written} → Adds a b → Adds b c → Adds c d → Adds d e → Adds a e
adds_fourth p q r t = adds_then (adds_third p q r) t

pub ruleset adding = (adds_none, adds_then, adds_third, adds_fourth)

-- what was there is the front of what is there
pub adds_keeps : {a b : Written} → Adds a b → take (length a.bytes) b.bytes ≡ a.bytes
unfolding with
adds_keeps {a} p = ap (λ w. take (length a.bytes) w.bytes) p.is ∙ take-append_seam a.bytes (take a.room p.more)

-- as many bytes as are added fit no more
pub adds_fits : {a b : Written} → Adds a b → length b.bytes + b.room ≡ length a.bytes + a.room
unfolding with
adds_fits {a} {b} p =
    let e : length b.bytes ≡ length a.bytes + length (take a.room p.more) =
    ap (λ w. length w.bytes) p.is ∙ length-append a.bytes (take a.room p.more) in
    let f : b.room ≡ a.room - length p.more = ap (λ w. w.room) p.is in
    omega (arith, e, f, length-take a.room p.more)

-- what is added can be cut off again
pub adds_back : {a b : Written} → Adds a b → cut b (length a.bytes) ≡ a
unfolding cut
adds_back {a} {b} p =
    let e : length a.bytes ≤ length b.bytes =
    omega (arith, ap length (adds_keeps p), length-take (length a.bytes) b.bytes) in
    same_written (adds_keeps p) (omega (arith, e, adds_fits p))

-- what is written anew, where what was added is cut off, is added to what was there
pub adds_again : {a b c d : Written} {n : ℕ} → n ≡ length a.bytes → Adds a b → c ≡ cut b n → Adds c d → Adds a d
adds_again {a} {b} {c} {d} e p f q = adds_more q.more (q.is ∙ ap (λ w. with w q.more) (f ∙ ap (cut b) e ∙ adds_back p))

-- a buffer whose text goes on up to a later place
pub up_to_more : (all new : List ℕ) (n m : ℕ) (xs : List ℕ) → n ≤ length all → length new ≡ length all
    → m ≡ n + min (length xs) (length all - n) → take m new ≡ take n all ++ take (length all - n) xs → up_to new m ≡ with (up_to all n) xs
unfolding up_to with
up_to_more all new n m xs h e f g = same_written g (omega arith)

-- one byte is set at the place
pub up_to_byte : (all : List ℕ) (n b : ℕ) → n < length all → up_to (set all n b) (n + 1) ≡ with (up_to all n) (b ∷ [])
up_to_byte all n b h =
    up_to_more all (set all n b) n (n + 1) (b ∷ []) (omega arith) (length-set all n b) (omega arith)
    (take_more_set all n b h ∙ ap (λ zs. take n all ++ zs) (sym (take_all (length all - n) (b ∷ []) (omega arith))))

-- the place goes back
pub up_to_cut : (all : List ℕ) (m n r : ℕ) → m ≤ length all → r ≡ min m n → up_to all r ≡ cut (up_to all m) n
unfolding up_to cut
up_to_cut all m n r h e =
    let xs = take m all in
    let f : r ≡ min n (length xs) = omega (arith, e, length-take m all) in
    same_written
    (sym (take-take r m all (omega (arith, e))) ∙ ap (λ k. take k xs) f ∙ take_min n xs)
    (omega (arith, e, length-take m all))

-- a part behind the place is written
pub up_to_part : (all ys xs : List ℕ) (n k : ℕ) → n ≤ length all → k ≡ min (length xs) (length all - n) → ys ≡ take k xs
    → up_to (put_mid n (n + k - n) all ys) (n + k) ≡ with (up_to all n) xs
up_to_part all ys xs n k h e f =
    let g : length ys ≡ k = ap length f ∙ length-take k xs ∙ omega (arith, e) in
    let t : k ≡ min (length all - n) (length xs) = omega (arith, e) in
    let u : take k xs ≡ take (length all - n) xs = ap (λ m. take m xs) t ∙ take_min (length all - n) xs in
    let p = post_of n (n + k - n) all in
    let m : length (put_mid n (n + k - n) all ys) ≡ length all = omega (
      arith,
      length-append (take n all) (ys ++ p),
      length-append ys p,
      length-take n all,
      length-drop (n + k - n) (drop n all),
      length-drop n all,
      g,
      e,
    ) in
    up_to_more all (put_mid n (n + k - n) all ys) n (n + k) xs h m (omega (arith, e))
    (take-put_mid n (n + k - n) all ys (n + k) (omega (arith, g)) h ∙ ap (λ zs. take n all ++ zs) (f ∙ u))

-- the same with one byte, as often as it fits
pub repeated_part : (all : List ℕ) (n k m b : ℕ) → n ≤ length all → k ≡ min m (length all - n)
    → replicate (length (take (n + k - n) (drop n all))) b ≡ take k (replicate m b)
repeated_part all n k m b h e =
    let f : length (take (n + k - n) (drop n all)) ≡ k = omega (arith, e, length-take (n + k - n) (drop n all), length-drop n all) in
    ap (λ i. replicate i b) f ∙ sym (take-replicate k m b (omega (arith, e)))
