-- Words as numbers: two of one length are compared by their last bytes, then by those before them.
-- Assumes nothing.
use Rattle.std.specs.Prelude.{◌≡◌, ℕ, zero, suc, ◌+◌, ◌-◌, ◌*◌, ◌^◌, ◌<◌, ◌≤◌, min, Bool, true, false, List, [], ◌∷◌, ◌++◌, length, take, drop, ◌≢◌, nat_lt, refl}
use Rattle.std.proofs.Common.{sym, ◌∙◌, mul-suc, mul_assoc, mul-le-mul_left, lt_of_mul-lt-mul_right, div-one, length-take, length-drop, take-append-drop, pow-add, pow_pos, get_or-drop, drop-drop, take-add, take-take}
use Rattle.std.proofs.Math.Path.{ap}
use Rattle.std.proofs.Math.Nat.{mul_comm, eq_of_mul-eq-mul_right}
use native.Mathlib.Omega.{arith}
use Rattle.std.proofs.Math.Pow.{high}
use borrow.Author.Tests.{ltb-true, ltb-false, lt-ltb, le-ltb, eq-eqb}
use Rattle.scan.specs.Number.{number_of}
use Rattle.scan.specs.Scan.{part_of}
use Rattle.scan.specs.PartLaws.{part_length, part_part, part_rest}
use Rattle.fields.specs.Field.{Bytes}
use Rattle.fields.specs.BoolLaws.{both_ways}
use Rattle.tables.specs.Table.{is_after}
use Rattle.tables.specs.Tail.{hidden_of, tail_of, key_of}

-- numbers of bytes ---------------------------------------------------------------------------------------------------------------------------------

pow_byte : (n : ℕ) → 2 ^ (8 * suc n) ≡ 256 * 2 ^ (8 * n)
pow_byte n = ap (λ (k : ℕ). 2 ^ k) (mul-suc 8 n) ∙ pow-add 2 (8 * n) 8 ∙ mul_comm (2 ^ (8 * n)) 256

number_append : (xs ys : List ℕ) → number_of (xs ++ ys) ≡ number_of xs + 2 ^ (8 * length xs) * number_of ys
unfolding number_of
number_append [] ys = omega arith
number_append (x ∷ xs) ys =
    let p = 2 ^ (8 * length xs) in
    let q : 2 ^ (8 * suc (length xs)) * number_of ys ≡ 256 * (p * number_of ys) = ap (λ (k : ℕ). k * number_of ys) (pow_byte (length xs)) ∙ mul_assoc 256 p (number_of ys) in
    omega (arith, number_append xs ys)

pub number_less : (xs : List ℕ) → Bytes xs → number_of xs < 2 ^ (8 * length xs)
unfolding number_of
number_less [] h = omega arith
number_less (x ∷ xs) h = omega (arith, h 0, number_less xs (λ i. h (suc i)), pow_byte (length xs))

pub number_same : (xs ys : List ℕ) → Bytes xs → Bytes ys → length xs ≡ length ys → number_of xs ≡ number_of ys → xs ≡ ys
unfolding number_of
number_same [] [] h k l e = refl
number_same [] (y ∷ ys) h k l e = absurd (omega arith)
number_same (x ∷ xs) [] h k l e = absurd (omega arith)
number_same (x ∷ xs) (y ∷ ys) h k l e =
    let a : x ≡ y = omega (arith, h 0, k 0) in
    let b : number_of xs ≡ number_of ys = omega (arith, h 0, k 0) in
    ap (λ (n : ℕ). n ∷ xs) a ∙ ap (λ v. y ∷ v) (number_same xs ys (λ i. h (suc i)) (λ i. k (suc i)) (omega arith) b)

-- bytes of a part
bytes_drop : (k : ℕ) (xs : List ℕ) → Bytes xs → Bytes (drop k xs)
bytes_drop k xs h i = rw (get_or-drop k xs i 0) (h (k + i))

bytes_take : (k : ℕ) (xs : List ℕ) → Bytes xs → Bytes (take k xs)
bytes_take zero xs h i = omega arith
bytes_take (suc k) [] h i = h i
bytes_take (suc k) (x ∷ xs) h zero = h 0
bytes_take (suc k) (x ∷ xs) h (suc i) = bytes_take k xs (λ j. h (suc j)) i

pub bytes_part : (a e : ℕ) (xs : List ℕ) → Bytes xs → Bytes (part_of xs a e)
bytes_part a e xs h = bytes_take (e - a) (drop a xs) (bytes_drop a xs h)

-- parts of parts
pub part_left : (s : List ℕ) (a e k : ℕ) → k ≤ e - a → take k (part_of s a e) ≡ part_of s a (a + k)
part_left s a e k h = let q : k ≡ a + k - a = omega arith in take-take k (e - a) (drop a s) h ∙ ap (λ (n : ℕ). take n (drop a s)) q

pub part_right : (s : List ℕ) (a e k : ℕ) → e ≤ length s → k ≤ e - a → drop k (part_of s a e) ≡ part_of s (a + k) e
part_right s a e k l h =
    let q : e - (a + k) ≡ a + (e - a) - (a + k) = omega arith in
    sym (part_rest (part_of s a e) k (e - a) (omega (arith, part_length s a e l)))
    ∙ part_part s a e k (e - a) h (omega arith)
    ∙ ap (λ (n : ℕ). take n (drop (a + k) s)) (sym q)

pub part_two : (s : List ℕ) (a m e : ℕ) → a ≤ m → m ≤ e → part_of s a m ++ part_of s m e ≡ part_of s a e
part_two s a m e h k =
    let q : a + (m - a) ≡ m = omega arith in
    let t : m - a + (e - m) ≡ e - a = omega arith in
    ap (λ (n : ℕ). part_of s a m ++ take (e - m) (drop n s)) (sym q)
    ∙ ap (λ v. part_of s a m ++ take (e - m) v) (sym (drop-drop (m - a) a s))
    ∙ sym (take-add (m - a) (e - m) (drop a s))
    ∙ ap (λ (n : ℕ). take n (drop a s)) t

-- two words of one length ---------------------------------------------------------------------------------------------------------------------------

number_parts : (k : ℕ) (v : List ℕ) → number_of v ≡ number_of (take k v) + 2 ^ (8 * length (take k v)) * number_of (drop k v)
number_parts k v = ap number_of (sym (take-append-drop k v)) ∙ number_append (take k v) (drop k v)

less_more : (a b t : ℕ) → nat_lt (a + t) (b + t) ≡ nat_lt a b
less_more a b t = both_ways _ _ (λ h. lt-ltb a b (omega (arith, ltb-true (a + t) (b + t) h))) (λ h. lt-ltb (a + t) (b + t) (omega (arith, ltb-true a b h)))

pub after_is : (v w : List ℕ) → length v ≡ length w → is_after v w ≡ nat_lt (number_of v) (number_of w)
unfolding is_after
after_is v w same = rw (le-ltb (length v) (length w) (omega arith), eq-eqb (length v) (length w) same)

module _ (v w : List ℕ) (same : length v ≡ length w) where
  parts_same : (k : ℕ) → length (take k v) ≡ length (take k w)
  parts_same k = length-take k v ∙ ap (λ (n : ℕ). min k n) same ∙ sym (length-take k w)

  -- by the bytes from k on, where they tell
  pub high_less : (k : ℕ) → Bytes v → number_of (drop k v) < number_of (drop k w) → number_of v < number_of w
  high_less k b h =
      let p = 2 ^ (8 * length (take k v)) in
      let e : p ≡ 2 ^ (8 * length (take k w)) = ap (λ (n : ℕ). 2 ^ (8 * n)) (parts_same k) in
      let m : p * suc (number_of (drop k v)) ≤ p * number_of (drop k w) = mul-le-mul_left p h in
      let f : p * number_of (drop k w) ≡ 2 ^ (8 * length (take k w)) * number_of (drop k w) = ap (λ (n : ℕ). n * number_of (drop k w)) e in
      omega (arith, mul-suc p (number_of (drop k v)), number_less (take k v) (bytes_take k v b), number_parts k v, number_parts k w)

  -- else by those before them
  pub high_same : (k : ℕ) → drop k v ≡ drop k w → is_after v w ≡ is_after (take k v) (take k w)
  high_same k h =
      let p = 2 ^ (8 * length (take k w)) in
      let e : number_of v ≡ number_of (take k v) + p * number_of (drop k w) =
      number_parts k v ∙ ap (λ (n : ℕ). number_of (take k v) + 2 ^ (8 * n) * number_of (drop k v)) (parts_same k) ∙ ap (λ u. number_of (take k v) + p * number_of u) h in
      after_is v w same
      ∙ rw (e, number_parts k w) (less_more (number_of (take k v)) (number_of (take k w)) (p * number_of (drop k w)))
      ∙ sym (after_is (take k v) (take k w) (parts_same k))

-- the last bytes -------------------------------------------------------------------------------------------------------------------------------------

pub hidden_short : (m : ℕ) → m < 8 → hidden_of m ≡ 64 - 8 * m
unfolding hidden_of
hidden_short m h = rw (lt-ltb m 8 h)

pub hidden_long : (m : ℕ) → 8 ≤ m → hidden_of m ≡ 0
unfolding hidden_of
hidden_long m h = rw (le-ltb m 8 h)

pub hidden_most : (m : ℕ) → 1 ≤ m → hidden_of m ≤ 56
hidden_most m h = go (nat_lt m 8) refl
  where
    go : (t : Bool) → nat_lt m 8 ≡ t → hidden_of m ≤ 56
    go true t = omega (arith, hidden_short m (ltb-true m 8 t))
    go false t = omega (arith, hidden_long m (ltb-false m 8 t))

module _ (b : List ℕ) (e m : ℕ) (bytes : Bytes b) (inside : e ≤ length b) (room : m ≤ e) (eight : 8 ≤ e) where
  word_length : length (part_of b (e - m) e) ≡ m
  word_length = omega (arith, part_length b (e - m) e inside)

  tail_short : m < 8 → tail_of b e (hidden_of m) ≡ number_of (part_of b (e - m) e) * 2 ^ hidden_of m
  unfolding tail_of
  tail_short h =
      let lo = part_of b (e - 8) (e - m) in
      let w = part_of b (e - m) e in
      let k : length lo ≡ 8 - m = omega (arith, part_length b (e - 8) (e - m) (omega arith)) in
      let q : 8 * length lo ≡ hidden_of m = omega (arith, hidden_short m h) in
      let p = 2 ^ hidden_of m in
      let l : number_of lo < p = rw q at (number_less lo (bytes_part (e - 8) (e - m) b bytes)) in
      let s : number_of (part_of b (e - 8) e) ≡ number_of w * p + number_of lo =
      ap number_of (sym (part_two b (e - 8) (e - m) e (omega arith) (omega arith)))
      ∙ number_append lo w
      ∙ ap (λ (n : ℕ). number_of lo + 2 ^ n * number_of w) q
      ∙ omega (arith, mul_comm p (number_of w)) in
      rw s (ap (λ (n : ℕ). n * p) (high (number_of w) (hidden_of m) l))

  tail_long : 8 ≤ m → tail_of b e (hidden_of m) ≡ number_of (drop (m - 8) (part_of b (e - m) e)) * 2 ^ hidden_of m
  unfolding tail_of
  tail_long h =
      let q : e - m + (m - 8) ≡ e - 8 = omega arith in
      let d : drop (m - 8) (part_of b (e - m) e) ≡ part_of b (e - 8) e =
      part_right b (e - m) e (m - 8) inside (omega arith) ∙ ap (λ (n : ℕ). part_of b n e) q in
      rw (hidden_long m h, d) (ap (λ (n : ℕ). n * 1) (div-one (number_of (part_of b (e - 8) e))))

  pub tail_key : tail_of b e (hidden_of m) ≡ key_of (part_of b (e - m) e)
  unfolding key_of
  tail_key = rw word_length (go (nat_lt m 8) refl)
    where
      go : (t : Bool) → nat_lt m 8 ≡ t → tail_of b e (hidden_of m) ≡ number_of (drop (m - 8) (part_of b (e - m) e)) * 2 ^ hidden_of m
      go true t =
          let z : m - 8 ≡ 0 = omega (arith, ltb-true m 8 t) in
          rw z (tail_short (ltb-true m 8 t))
      go false t = tail_long (ltb-false m 8 t)

key_at : (v : List ℕ) (m : ℕ) → length v ≡ m → key_of v ≡ number_of (drop (m - 8) v) * 2 ^ hidden_of m
unfolding key_of
key_at v m e = rw e

-- words of m bytes
module _ (v w : List ℕ) (m : ℕ) (of-v : length v ≡ m) (of-w : length w ≡ m) where
  pub key_less : Bytes v → key_of v < key_of w → is_after v w ≡ true
  key_less b h =
      let k = rw (key_at v m of-v, key_at w m of-w) at h in
      after_is v w (of-v ∙ sym of-w) ∙ lt-ltb _ _ (high_less v w (of-v ∙ sym of-w) (m - 8) b (lt_of_mul-lt-mul_right (2 ^ hidden_of m) k))

  pub key_more : Bytes w → key_of w < key_of v → is_after v w ≡ false
  key_more b h =
      let k = rw (key_at v m of-v, key_at w m of-w) at h in
      let l : number_of w < number_of v = high_less w v (of-w ∙ sym of-v) (m - 8) b (lt_of_mul-lt-mul_right (2 ^ hidden_of m) k) in
      after_is v w (of-v ∙ sym of-w) ∙ le-ltb (number_of v) (number_of w) (omega arith)

  -- keys that are alike are those of words that end alike
  pub key_same : Bytes v → Bytes w → key_of v ≡ key_of w → drop (m - 8) v ≡ drop (m - 8) w
  key_same b c h =
      number_same (drop (m - 8) v) (drop (m - 8) w) (bytes_drop (m - 8) v b) (bytes_drop (m - 8) w c)
      (length-drop (m - 8) v ∙ omega arith ∙ sym (length-drop (m - 8) w))
      (eq_of_mul-eq-mul_right (2 ^ hidden_of m) (pow_pos (hidden_of m)) _ _ (sym (key_at v m of-v) ∙ h ∙ key_at w m of-w))

  -- words that are alike from k + 8 on, by the eight bytes before that
  eight_less : (k : ℕ) → Bytes v → drop (k + 8) v ≡ drop (k + 8) w → number_of (take 8 (drop k v)) < number_of (take 8 (drop k w)) → number_of v < number_of w
  eight_less k b h l =
      let same : length (take 8 (drop k v)) ≡ length (take 8 (drop k w)) =
      simp (length-take, length-drop) (ap (λ (n : ℕ). min 8 (n - k)) (of-v ∙ sym of-w)) in
      let p = 2 ^ (8 * length (take 8 (drop k w))) in
      let e : number_of (drop k v) ≡ number_of (take 8 (drop k v)) + p * number_of (drop (k + 8) w) =
      number_parts 8 (drop k v)
      ∙ ap (λ (n : ℕ). number_of (take 8 (drop k v)) + 2 ^ (8 * n) * number_of (drop 8 (drop k v))) same
      ∙ ap (λ u. number_of (take 8 (drop k v)) + p * number_of u) (drop-drop 8 k v ∙ h) in
      let f : number_of (drop k w) ≡ number_of (take 8 (drop k w)) + p * number_of (drop (k + 8) w) =
      number_parts 8 (drop k w) ∙ ap (λ u. number_of (take 8 (drop k w)) + p * number_of u) (drop-drop 8 k w) in
      high_less v w (of-v ∙ sym of-w) k b (omega arith)

  pub eight_same : (k : ℕ) → drop (k + 8) v ≡ drop (k + 8) w → take 8 (drop k v) ≡ take 8 (drop k w) → drop k v ≡ drop k w
  eight_same k h e =
      sym (take-append-drop 8 (drop k v)) ∙ ap (λ u. u ++ drop 8 (drop k v)) e
      ∙ ap (λ u. take 8 (drop k w) ++ u) (drop-drop 8 k v ∙ h ∙ sym (drop-drop 8 k w)) ∙ take-append-drop 8 (drop k w)

pub eight_tells : (v w : List ℕ) (m : ℕ) → length v ≡ m → length w ≡ m → (k : ℕ) → Bytes v → Bytes w → drop (k + 8) v ≡ drop (k + 8) w →
    (number_of (take 8 (drop k v)) ≢ number_of (take 8 (drop k w))) → is_after v w ≡ nat_lt (number_of (take 8 (drop k v))) (number_of (take 8 (drop k w)))
eight_tells v w m of-v of-w k b c h n = after_is v w (of-v ∙ sym of-w) ∙ go (nat_lt x y) refl
  where
    x : ℕ
    x = number_of (take 8 (drop k v))

    y : ℕ
    y = number_of (take 8 (drop k w))

    go : (t : Bool) → nat_lt x y ≡ t → nat_lt (number_of v) (number_of w) ≡ t
    go true t = lt-ltb (number_of v) (number_of w) (eight_less v w m of-v of-w k b h (ltb-true x y t))
    go false t =
        let l : y < x = omega (arith, ltb-false x y t, n) in
        le-ltb (number_of v) (number_of w) (omega (arith, eight_less w v m of-w of-v k c (sym h) l))
