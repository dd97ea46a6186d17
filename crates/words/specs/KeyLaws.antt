-- Laws of lookup by numbers: it finds what lookup by bytes finds.
-- Assumes nothing.
use Rattle.std.specs.Prelude.{◌≡◌, refl, Bool, true, false, ◌&&◌, List, [], ◌∷◌, ◌++◌, ℕ, zero, suc, ◌+◌, ◌*◌, ◌^◌, ◌<◌, ◌≤◌, eqb, ltb, leb, length, get_or, take, drop, None}
use Rattle.std.proofs.Common.{◌∙◌, sym, ap, add-one, pow-suc, add-mul, mul_assoc, mul_comm, zero-add, arith, drop_of_length-le, length-drop, take_all, take-add, drop-drop, length-take-le, eqb-true, eq-eqb, ne_eqb, ltb-true, leb-true}
use Rattle.std.proofs.Math.Nat.{pow-le-pow_right}
use Rattle.std.proofs.Math.Decide.{dec_lt}
use Rattle.std.proofs.lemmas.Bool.{eqb-false}
use Rattle.scan.specs.RunLaws.{and_left, and_right, drop_step}
use Rattle.scan.specs.Number.{number_at}
use Rattle.words.specs.Words.{Row, aliases, names, shipped, same, lookup_in, lookup}
use Rattle.words.specs.LookupLaws.{same_eq, lookup_here, lookup_past}
use Rattle.words.specs.Keys.{pack_from, pack, of_length, keys_of, key_in, keyed}

-- bytes ---------------------------------------------------------------------------------------------------------------------------

-- every element is a byte
abbrev pub Bytes : List ℕ → Type 0
Bytes [] = Unit {0}
Bytes (x ∷ xs) = (x < 256) × Bytes xs

pub all_bytes : (w : List ℕ) → ((i : ℕ) → get_or w i 0 < 256) → Bytes w
all_bytes [] h = tt
all_bytes (x ∷ xs) h = (h 0, all_bytes xs (λ i. h (suc i)))

abbrev test_bytes : List ℕ → Bool
test_bytes [] = true
test_bytes (x ∷ xs) = ltb x 256 && test_bytes xs

tested : (w : List ℕ) → test_bytes w ≡ true → Bytes w
tested [] e = tt
tested (x ∷ xs) e = (ltb-true x 256 (and_left _ _ e), tested xs (and_right (ltb x 256) _ e))

-- every word of the rows is of bytes
abbrev ByteRows : List Row → Type 0
ByteRows [] = Unit {0}
ByteRows (r ∷ rs) = Bytes r.word × ByteRows rs

abbrev test_rows : List Row → Bool
test_rows [] = true
test_rows (r ∷ rs) = test_bytes r.word && test_rows rs

tested_rows : (rs : List Row) → test_rows rs ≡ true → ByteRows rs
tested_rows [] e = tt
tested_rows (r ∷ rs) e = (tested r.word (and_left _ _ e), tested_rows rs (and_right (test_bytes r.word) _ e))

-- numbers ---------------------------------------------------------------------------------------------------------------------------

last_digit : (a b x y : ℕ) → x < 256 → y < 256 → eqb (a * 256 + x) (b * 256 + y) ≡ (eqb a b && eqb x y)
last_digit a b x y h k = go (eqb a b) (eqb x y) refl refl
  where
    go : (c d : Bool) → eqb a b ≡ c → eqb x y ≡ d → eqb (a * 256 + x) (b * 256 + y) ≡ (c && d)
    go true true p q =
        let e = eqb-true a b p in
        let f = eqb-true x y q in
        eq-eqb (a * 256 + x) (b * 256 + y) (omega arith)
    go true false p q =
        let e = eqb-true a b p in
        let f : (x ≡ y → ⊥) = eqb-false x y q in
        ne_eqb (a * 256 + x) (b * 256 + y) (λ z. f (omega arith))
    go false d p q = let e : (a ≡ b → ⊥) = eqb-false a b p in ne_eqb (a * 256 + x) (b * 256 + y) (λ z. e (omega arith))

and_assoc : (a b c : Bool) → ((a && b) && c) ≡ (a && (b && c))
and_assoc true b c = refl
and_assoc false b c = refl

pack_same : (a b : ℕ) (u v : List ℕ) → length u ≡ length v → Bytes u → Bytes v → eqb (pack_from a u) (pack_from b v) ≡ (eqb a b && same u v)
unfolding pack_from same
pack_same a b [] [] e h k = go (eqb a b)
  where
    go : (c : Bool) → c ≡ (c && true)
    go true = refl
    go false = refl
pack_same a b [] (y ∷ v) e h k = absurd (omega arith)
pack_same a b (x ∷ u) [] e h k = absurd (omega arith)
pack_same a b (x ∷ u) (y ∷ v) e h k =
    pack_same (a * 256 + x) (b * 256 + y) u v (omega arith) h.1 k.1
    ∙ ap (λ (c : Bool). c && same u v) (last_digit a b x y h.0 k.0)
    ∙ and_assoc (eqb a b) (eqb x y) (same u v)

-- words in two parts --------------------------------------------------------------------------------------------------------------------

same_parts : (n : ℕ) (u v : List ℕ) → (same (take n u) (take n v) && same (drop n u) (drop n v)) ≡ same u v
unfolding same
same_parts zero u v = refl
same_parts (suc n) [] [] = refl
same_parts (suc n) [] (y ∷ v) = refl
same_parts (suc n) (x ∷ u) [] = refl
same_parts (suc n) (x ∷ u) (y ∷ v) =
    and_assoc (eqb x y) (same (take n u) (take n v)) (same (drop n u) (drop n v)) ∙ ap (λ (c : Bool). eqb x y && c) (same_parts n u v)

take_size : (n : ℕ) (u v : List ℕ) → length u ≡ length v → length (take n u) ≡ length (take n v)
take_size zero u v e = refl
take_size (suc n) [] [] e = refl
take_size (suc n) [] (y ∷ v) e = absurd (omega arith)
take_size (suc n) (x ∷ u) [] e = absurd (omega arith)
take_size (suc n) (x ∷ u) (y ∷ v) e = ap suc (take_size n u v (omega arith))

drop_size : (n : ℕ) (u v : List ℕ) → length u ≡ length v → length (drop n u) ≡ length (drop n v)
drop_size zero u v e = e
drop_size (suc n) [] [] e = refl
drop_size (suc n) [] (y ∷ v) e = absurd (omega arith)
drop_size (suc n) (x ∷ u) [] e = absurd (omega arith)
drop_size (suc n) (x ∷ u) (y ∷ v) e = drop_size n u v (omega arith)

take_bytes : (n : ℕ) (u : List ℕ) → Bytes u → Bytes (take n u)
take_bytes zero u h = tt
take_bytes (suc n) [] h = tt
take_bytes (suc n) (x ∷ u) h = (h.0, take_bytes n u h.1)

drop_bytes : (n : ℕ) (u : List ℕ) → Bytes u → Bytes (drop n u)
drop_bytes zero u h = h
drop_bytes (suc n) [] h = tt
drop_bytes (suc n) (x ∷ u) h = drop_bytes n u h.1

packed : (u v : List ℕ) → length u ≡ length v → Bytes u → Bytes v → eqb (pack u) (pack v) ≡ same u v
unfolding pack
packed u v e h k = pack_same 0 0 u v e h k

keys_same : (u v : List ℕ) → length u ≡ length v → Bytes u → Bytes v →
    (eqb (pack (take 8 u)) (pack (take 8 v)) && eqb (pack (drop 8 u)) (pack (drop 8 v))) ≡ same u v
keys_same u v e h k =
    rw (
      packed (take 8 u) (take 8 v) (take_size 8 u v e) (take_bytes 8 u h) (take_bytes 8 v k),
      packed (drop 8 u) (drop 8 v) (drop_size 8 u v e) (drop_bytes 8 u h) (drop_bytes 8 v k),
    ) (same_parts 8 u v)

-- words of one length ------------------------------------------------------------------------------------------------------------------

-- only the words of the same length matter, and each is told by its number
pub lookup_key : (rs : List Row) (w : List ℕ) → ByteRows rs → Bytes w → lookup_in rs w ≡ key_in (keys_of (of_length (length w) rs)) (pack (take 8 w)) (pack (drop 8 w))
unfolding lookup_in of_length keys_of key_in
lookup_key [] w h k = refl
lookup_key (r ∷ rs) w h k = go (eqb (length r.word) (length w)) (same w r.word) refl refl (lookup_key rs w h.1 k)
  where
    go : (t u : Bool) → eqb (length r.word) (length w) ≡ t → same w r.word ≡ u →
        lookup_in rs w ≡ key_in (keys_of (of_length (length w) rs)) (pack (take 8 w)) (pack (drop 8 w)) →
        lookup_in (r ∷ rs) w ≡ key_in (keys_of (elim t as (λ x. List Row) [ true ↦ r ∷ of_length (length w) rs | false ↦ of_length (length w) rs ])) (pack (take 8 w)) (pack (drop 8 w))
    go true true p q ih = lookup_here r rs w q ∙ rw (keys_same w r.word (sym (eqb-true _ _ p)) k h.0, q)
    go true false p q ih = lookup_past r rs w q ∙ (ih ∙ rw (keys_same w r.word (sym (eqb-true _ _ p)) k h.0, q))
    go false true p q ih = absurd (eqb-false (length r.word) (length w) p (sym (ap length (same_eq w r.word q))))
    go false false p q ih = lookup_past r rs w q ∙ ih

shipped_bytes : ByteRows shipped
unfolding shipped aliases names
shipped_bytes = tested_rows shipped refl

-- what the words of w's length lead its numbers to is what lookup leads w to
pub shipped_key : (w : List ℕ) → Bytes w → lookup w ≡ keyed (length w) (pack (take 8 w)) (pack (drop 8 w))
unfolding lookup keyed
shipped_key w h = lookup_key shipped w shipped_bytes h

pub short_key : (w : List ℕ) → Bytes w → length w ≤ 8 → lookup w ≡ keyed (length w) (pack w) 0
unfolding pack pack_from
short_key w h l =
    let e = shipped_key w h in rw (take_all 8 w l, drop_of_length-le w {i = 8} l) at e

-- no shipped word has no byte, and none has more than eleven --------------------------------------------------------------------------

abbrev test_sizes : List Row → Bool
test_sizes [] = true
test_sizes (r ∷ rs) = leb (length r.word) 11 && test_sizes rs

none_longer : (n : ℕ) (rs : List Row) → test_sizes rs ≡ true → 12 ≤ n → of_length n rs ≡ []
unfolding of_length
none_longer n [] e h = refl
none_longer n (r ∷ rs) e h =
    let l = leb-true (length r.word) 11 (and_left _ _ e) in
    rw (ne_eqb (length r.word) n (omega arith), of_length) (none_longer n rs (and_right (leb (length r.word) 11) _ e) h)

shipped_longer : (n : ℕ) → 12 ≤ n → of_length n shipped ≡ []
unfolding shipped aliases names
shipped_longer n h = none_longer n shipped refl h

pub keyed_longer : (n f b : ℕ) → 12 ≤ n → keyed n f b ≡ None
unfolding keyed key_in keys_of
keyed_longer n f b h = rw (shipped_longer n h)

pub keyed_empty : (f b : ℕ) → keyed 0 f b ≡ None
unfolding keyed key_in keys_of of_length shipped aliases names
keyed_empty f b = refl

pub lookup_longer : (w : List ℕ) → Bytes w → 12 ≤ length w → lookup w ≡ None
lookup_longer w h l = shipped_key w h ∙ keyed_longer (length w) _ _ l

-- numbers of bytes in a row -------------------------------------------------------------------------------------------------------

pack_joined : (k : ℕ) (xs ys : List ℕ) → pack_from k (xs ++ ys) ≡ pack_from (pack_from k xs) ys
unfolding pack_from
pack_joined k [] ys = refl
pack_joined k (x ∷ xs) ys = pack_joined (k * 256 + x) xs ys

-- what stands before n bytes counts 256 ^ n times
pack_behind : (k : ℕ) (ys : List ℕ) → pack_from k ys ≡ k * 256 ^ length ys + pack_from 0 ys
unfolding pack_from
pack_behind k [] = omega arith
pack_behind k (y ∷ ys) =
    let p = 256 ^ length ys in
    let e : 256 ^ suc (length ys) ≡ p * 256 = pow-suc 256 (length ys) in
    let d : (k * 256 + y) * p ≡ k * 256 * p + y * p = add-mul (k * 256) y p in
    let f : k * 256 * p ≡ k * (256 * p) = mul_assoc k 256 p in
    let g : 256 * p ≡ p * 256 = mul_comm 256 p in
    let i : pack_from (0 * 256 + y) ys ≡ y * p + pack_from 0 ys = ap (λ (m : ℕ). pack_from m ys) (zero-add y) ∙ pack_behind y ys in
    pack_behind (k * 256 + y) ys ∙ omega (arith, d, i, ap (λ (m : ℕ). k * m) (g ∙ sym e), f)

-- bytes in a row are packed
number_pack : (x : ℕ) (w : List ℕ) (i n : ℕ) → i + n ≤ length w → number_at x w i n ≡ pack_from x (take n (drop i w))
unfolding number_at pack_from
number_pack x w i zero h = refl
number_pack x w i (suc n) h = rw (drop_step w i (omega arith)) (number_pack (x * 256 + get_or w i 0) w (i + 1) n (omega arith))

-- the n bytes behind m others
pub number_join : (w : List ℕ) (i m n a b : ℕ) → i + (m + n) ≤ length w → a ≡ number_at 0 w i m → b ≡ number_at 0 w (i + m) n → a * 256 ^ n + b ≡ number_at 0 w i (m + n)
number_join w i m n a b h e f =
    let l = drop i w in
    let xs = take m l in
    let ys = take n (drop m l) in
    let d : drop m l ≡ drop (i + m) w = drop-drop m i w in
    let s : length ys ≡ n = length-take-le n (drop m l) (omega (arith, length-drop i w, length-drop m l)) in
    let t : take (m + n) l ≡ xs ++ ys = take-add m n l in
    rw (e ∙ number_pack 0 w i m (omega arith), f ∙ number_pack 0 w (i + m) n (omega arith), number_pack 0 w i (m + n) h, ← d)
    (sym (ap (pack_from 0) t ∙ pack_joined 0 xs ys ∙ pack_behind (pack_from 0 xs) ys ∙ ap (λ (z : ℕ). pack_from 0 xs * 256 ^ z + pack_from 0 ys) s))

-- and one byte more
pub number_next : (w : List ℕ) (i k n : ℕ) → i + k < length w → n ≡ number_at 0 w i k → n * 256 + get_or w (i + k) 0 ≡ number_at 0 w i (k + 1)
unfolding number_at
number_next w i k n h e = number_join w i k 1 n (get_or w (i + k) 0) (omega arith) e (sym (zero-add (get_or w (i + k) 0)))

pub pow_next : (k : ℕ) → 256 ^ (k + 1) ≡ 256 ^ k * 256
pow_next k = rw add-one (pow-suc 256 k)

-- six bytes, or fewer
pub few_fit : (k : ℕ) → k ≤ 6 → 256 ^ k ≤ 256 ^ 6
few_fit k h = pow-le-pow_right (omega arith) h

pub number_one : (w : List ℕ) (i : ℕ) → get_or w i 0 ≡ number_at 0 w i 1
unfolding number_at
number_one w i = omega arith

-- what its number leads to is what a word leads to: of at most eight bytes, and of more by two numbers
pub short_found : (w : List ℕ) (n f : ℕ) → Bytes w → length w ≡ n → n ≤ 8 → f ≡ number_at 0 w 0 n → keyed n f 0 ≡ lookup w
unfolding pack
short_found w n f h e l k =
    let p : number_at 0 w 0 n ≡ pack w = number_pack 0 w 0 n (omega arith) ∙ ap pack (take_all n w (omega arith)) in
    rw (k ∙ p, ← e) (sym (short_key w h (omega arith)))

pub long_found : (w : List ℕ) (m n f b : ℕ) → Bytes w → length w ≡ m → m ≡ 8 + n → f ≡ number_at 0 w 0 8 → b ≡ number_at 0 w 8 n → keyed m f b ≡ lookup w
unfolding pack
long_found w m n f b h e l j k =
    let o : number_at 0 w 0 8 ≡ pack (take 8 w) = number_pack 0 w 0 8 (omega arith) in
    let p : number_at 0 w 8 n ≡ pack (drop 8 w) = number_pack 0 w 8 n (omega arith) ∙ ap pack (take_all n (drop 8 w) (omega (arith, length-drop 8 w))) in
    rw (j ∙ o, k ∙ p, ← e) (sym (shipped_key w h))

-- no shipped word has no byte or more than eleven
between : (n : ℕ) → (n ≡ 1 → ⊥) → (n ≡ 2 → ⊥) → (n ≡ 3 → ⊥) → (n ≡ 4 → ⊥) → (n ≡ 5 → ⊥) → (n ≡ 6 → ⊥) → n ≤ 6 → n ≡ 0
between n a b c d e f h = omega arith

above : (n : ℕ) → (n ≡ 7 → ⊥) → (n ≡ 8 → ⊥) → (n ≡ 9 → ⊥) → (n ≡ 10 → ⊥) → (n ≡ 11 → ⊥) → 7 ≤ n → 12 ≤ n
above n a b c d e h = omega arith

pub none_found : (w : List ℕ) (n : ℕ) → Bytes w → length w ≡ n → (n ≡ 1 → ⊥) → (n ≡ 2 → ⊥) → (n ≡ 3 → ⊥) → (n ≡ 4 → ⊥) → (n ≡ 5 → ⊥) → (n ≡ 6 → ⊥) → (n ≡ 7 → ⊥) → (n ≡ 8 → ⊥) →
    (n ≡ 9 → ⊥) → (n ≡ 10 → ⊥) → (n ≡ 11 → ⊥) → lookup w ≡ None
none_found w n h l a b c d e f g i j k m = go (dec_lt n 7)
  where
    go : Dec (n < 7) → lookup w ≡ None
    go (yes p) = let z = l ∙ between n a b c d e f (omega arith) in shipped_key w h ∙ rw z (keyed_empty _ _)
    go (no p) = lookup_longer w h (rw l (above n g i j k m (omega arith)))
