-- Words as numbers, two words compared by parts, and a word looked for among the rows of a table.
-- Assumes nothing.
use Rattle.std.specs.Prelude.{◌≡◌, ℕ, zero, suc, ◌+◌, ◌-◌, ◌*◌, ◌%◌, ◌^◌, ◌<◌, ◌≤◌, Bool, true, false, List, [], ◌∷◌, ◌++◌, length, take, drop, ◌==◌, ◌≢◌, slice_index, refl, Some, None}
use Rattle.std.proofs.Math.Path.{sym, ap}
use Rattle.std.proofs.Common.{◌∙◌, append_assoc, mul-suc, suc-mul, mul-lt-mul_of_pos_right, mod-eq_of_lt, length-take, length-drop, drop_of_length-le, pow-add, pow_pos, length-take-le, get_or-take, get_or-drop, ext_get_or, eqb-true}
use native.Mathlib.Omega.{arith}
use Rattle.std.proofs.Math.Decide.{dec_lt}
use Rattle.std.proofs.Math.Seq.{drop-drop}
use Rattle.std.proofs.lemmas.Bool.{eqb-false}
use Rattle.limits.specs.Limits.{word_limit}
use Rattle.scan.specs.Scan.{byte_at, part_of}
use Rattle.scan.specs.Number.{number_of}
use Rattle.scan.specs.PartLaws.{part_length, part_rest, part_part}
use Rattle.scan.specs.RunLaws.{drop_step}
use Rattle.words.specs.Words.{Row, same, lookup_in}
use Rattle.words.specs.LookupLaws.{same_eq, same_refl, lookup_here, lookup_past}
use Rattle.fields.specs.Field.{Bytes}
use Rattle.tables.specs.Table.{count_of, repeated, lengths_from, sum, cut, commands_at, words_at, table_end, framed, table}
use Rattle.tables.specs.Walk.{lengths_at, seek}
use Rattle.tables.specs.Tail.{hidden_of, tail_of, key_of}
use Rattle.tables.specs.PartsLaws.{sum_append, sum_repeated, count_other, count_later, cut_two, from_append, repeated_two}
use Rattle.tables.specs.FrameLaws.{Framed, framed_told, rows_unframed, rows_empty, rows_are, lengths_step, lengths_fit}
use Rattle.tables.specs.TailLaws.{number_less, number_same, hidden_short, hidden_long, bytes_part, part_two, tail_key, key_same}

-- numbers -------------------------------------------------------------------------------------------------------------------------------------------

-- one byte more in front
pub number_step : (w : List ℕ) (k : ℕ) → k < length w → number_of (drop k w) ≡ number_of (drop (k + 1) w) * 256 + byte_at w k
unfolding number_of
number_step w k h = ap number_of (drop_step w k h) ∙ omega arith

pub number_end : (w : List ℕ) (k : ℕ) → length w ≤ k → number_of (drop k w) ≡ 0
unfolding number_of
number_end w k h = ap number_of (drop_of_length-le w h)

pub byte_below : (n x y : ℕ) → x < 2 ^ (8 * n) → y < 256 → x * 256 + y < 2 ^ (8 * suc n)
byte_below n x y h k = let e : 2 ^ (8 * suc n) ≡ 2 ^ (8 * n) * 256 = ap (λ (j : ℕ). 2 ^ j) (mul-suc 8 n) ∙ pow-add 2 (8 * n) 8 in omega arith

-- a word's last bytes, from the word itself
pub key_short : (w : List ℕ) → Bytes w → length w < 8 → number_of w * 2 ^ hidden_of (length w) % 2 ^ 64 ≡ key_of w
unfolding key_of
key_short w h s =
    let m = length w in
    let q : 8 * m + hidden_of m ≡ 64 = omega (arith, hidden_short m s) in
    let p : 2 ^ (8 * m) * 2 ^ hidden_of m ≡ 2 ^ 64 = sym (pow-add 2 (8 * m) (hidden_of m)) ∙ ap (λ (k : ℕ). 2 ^ k) q in
    let z : m - 8 ≡ 0 = omega arith in
    mod-eq_of_lt (omega (arith, mul-lt-mul_of_pos_right (number_less w h) (pow_pos (hidden_of m)))) ∙ rw z refl

pub key_long : (w : List ℕ) → 8 ≤ length w → number_of (part_of w (length w - 8) (length w - 8 + 8)) ≡ key_of w
unfolding key_of
key_long w l = rw (hidden_long (length w) l) (ap number_of (part_rest w (length w - 8) (length w - 8 + 8) (omega arith)) ∙ omega arith)

-- words by parts ------------------------------------------------------------------------------------------------------------------------------------

-- words that are the same
same_is : (u v : List ℕ) → u ≡ v → same u v ≡ true
same_is u v e = ap (same u) (sym e) ∙ same_refl u

pub same_not : (u v : List ℕ) → (u ≢ v) → same u v ≡ false
same_not u v h = go (same u v) refl
  where
    go : (t : Bool) → same u v ≡ t → t ≡ false
    go true e = absurd (h (same_eq u v e))
    go false e = refl

module _ (w v : List ℕ) (size : length v ≡ length w) (hw : Bytes w) (hv : Bytes v) where
  -- parts that are the same number
  part_alike : (a e : ℕ) → e ≤ length w → number_of (part_of v a e) ≡ number_of (part_of w a e) → (i : ℕ) → a ≤ i → i < e → byte_at w i ≡ byte_at v i
  part_alike a e l n i h k =
      let p : part_of v a e ≡ part_of w a e =
      number_same (part_of v a e) (part_of w a e) (bytes_part a e v hv) (bytes_part a e w hw) (part_length v a e (omega arith) ∙ sym (part_length w a e l)) n in
      let q : a + (i - a) ≡ i = omega arith in
      let at : (u : List ℕ) → byte_at (part_of u a e) (i - a) ≡ byte_at u i = λ u.
      get_or-take (e - a) (drop a u) (i - a) 0 (omega arith) ∙ get_or-drop a u (i - a) 0 ∙ ap (λ (j : ℕ). byte_at u j) q in
      sym (at w) ∙ ap (λ u. byte_at u (i - a)) (sym p) ∙ at v

  -- last bytes that are the same number
  key_alike : key_of v ≡ key_of w → (i : ℕ) → i < length w → length w ≤ i + 8 → byte_at w i ≡ byte_at v i
  key_alike k i h l =
      let r = length w - 8 in
      let p : drop r v ≡ drop r w = key_same v w (length w) size refl hv hw k in
      let q : r + (i - r) ≡ i = omega arith in
      let at : (u : List ℕ) → byte_at (drop r u) (i - r) ≡ byte_at u i = λ u. get_or-drop r u (i - r) 0 ∙ ap (λ (j : ℕ). byte_at u j) q in
      sym (at w) ∙ ap (λ u. byte_at u (i - r)) (sym p) ∙ at v

  alike_same : ((i : ℕ) → i < length w → byte_at w i ≡ byte_at v i) → true ≡ same w v
  alike_same h = sym (same_is w v (ext_get_or 0 w v (sym size) h))

-- the word that ends at e, whose last bytes are those of w
module _ (b w : List ℕ) (e : ℕ) (hb : Bytes b) (hw : Bytes w) (l : length w ≤ e) (f : e ≤ length b) (t : 8 ≤ e)
    (k : tail_of b e (hidden_of (length w)) ≡ key_of w) where
  word_size : length (part_of b (e - length w) e) ≡ length w
  word_size = part_length b (e - length w) e f ∙ omega arith

  eight_in : (a : ℕ) → a + 8 ≤ length w → part_of (part_of b (e - length w) e) a (a + 8) ≡ part_of b (e - length w + a) (e - length w + a + 8)
  eight_in a h =
      let q : e - length w + (a + 8) ≡ e - length w + a + 8 = omega arith in
      part_part b (e - length w) e a (a + 8) (omega arith) (omega arith) ∙ ap (λ (n : ℕ). part_of b (e - length w + a) n) q

  alike_at : (a : ℕ) → a + 8 ≤ length w → number_of (part_of b (e - length w + a) (e - length w + a + 8)) ≡ number_of (part_of w a (a + 8)) → (i : ℕ) → a ≤ i → i < a + 8 →
      byte_at w i ≡ byte_at (part_of b (e - length w) e) i
  alike_at a h n = part_alike w (part_of b (e - length w) e) word_size hw (bytes_part (e - length w) e b hb) a (a + 8) h (ap number_of (eight_in a h) ∙ n)

  other_at : (a : ℕ) → a + 8 ≤ length w → (number_of (part_of b (e - length w + a) (e - length w + a + 8)) ≢ number_of (part_of w a (a + 8))) → false ≡ same w (part_of b (e - length w) e)
  other_at a h n = sym (same_not w (part_of b (e - length w) e) (λ p. n (ap number_of (sym (eight_in a h) ∙ ap (λ u. part_of u a (a + 8)) (sym p)))))

  last_alike : (i : ℕ) → i < length w → length w ≤ i + 8 → byte_at w i ≡ byte_at (part_of b (e - length w) e) i
  last_alike = key_alike w (part_of b (e - length w) e) word_size hw (bytes_part (e - length w) e b hb) (sym (tail_key b e (length w) hb f l t) ∙ k)

  all_alike : ((i : ℕ) → i < length w → byte_at w i ≡ byte_at (part_of b (e - length w) e) i) → true ≡ same w (part_of b (e - length w) e)
  all_alike = alike_same w (part_of b (e - length w) e) word_size hw (bytes_part (e - length w) e b hb)

  first_eight : e - length w + 0 ≡ e - length w
  first_eight = omega arith

  pub rest_short : length w ≤ 8 → true ≡ same w (part_of b (e - length w) e)
  rest_short h = all_alike (λ i j. last_alike i j (omega arith))

  pub rest_other : 8 ≤ length w → (number_of (part_of b (e - length w) (e - length w + 8)) ≢ number_of (part_of w 0 8)) → false ≡ same w (part_of b (e - length w) e)
  rest_other h n = other_at 0 (omega arith) (rw first_eight n)

  module _ (long : 8 ≤ length w) (n : number_of (part_of b (e - length w) (e - length w + 8)) ≡ number_of (part_of w 0 8)) where
    first_alike : (i : ℕ) → i < 8 → byte_at w i ≡ byte_at (part_of b (e - length w) e) i
    first_alike i h = alike_at 0 (omega arith) (rw first_eight n) i (omega arith) (omega arith)

    pub rest_two : length w ≤ 16 → true ≡ same w (part_of b (e - length w) e)
    rest_two h = all_alike (λ i j. go i j (dec_lt i 8))
      where
        go : (i : ℕ) → i < length w → Dec (i < 8) → byte_at w i ≡ byte_at (part_of b (e - length w) e) i
        go i j (yes q) = first_alike i q
        go i j (no q) = last_alike i j (omega arith)

    pub rest_three : 16 ≤ length w → length w ≤ 24 →
        (number_of (part_of b (e - length w + 8) (e - length w + 8 + 8)) == number_of (part_of w 8 16)) ≡ same w (part_of b (e - length w) e)
    rest_three h g = told (number_of (part_of b (e - length w + 8) (e - length w + 8 + 8)) == number_of (part_of w 8 16)) refl
      where
        go : number_of (part_of b (e - length w + 8) (e - length w + 8 + 8)) ≡ number_of (part_of w 8 16) → (i : ℕ) → i < length w → Dec (i < 8) → Dec (i < 16) →
            byte_at w i ≡ byte_at (part_of b (e - length w) e) i
        go m i j (yes q) d = first_alike i q
        go m i j (no q) (yes r) = alike_at 8 h m i (omega arith) r
        go m i j (no q) (no r) = last_alike i j (omega arith)

        told : (t : Bool) → (number_of (part_of b (e - length w + 8) (e - length w + 8 + 8)) == number_of (part_of w 8 16)) ≡ t → t ≡ same w (part_of b (e - length w) e)
        told true m = all_alike (λ i j. go (eqb-true _ _ m) i j (dec_lt i 8) (dec_lt i 16))
        told false m = other_at 8 h (eqb-false _ _ m)

-- a word of which the last bytes are others
pub ends_other : (b w : List ℕ) (e : ℕ) → Bytes b → length w ≤ e → e ≤ length b → 8 ≤ e → (tail_of b e (hidden_of (length w)) ≢ key_of w) → false ≡ same w (part_of b (e - length w) e)
ends_other b w e hb l f t n = sym (same_not w (part_of b (e - length w) e) (λ p. n (tail_key b e (length w) hb f l t ∙ ap key_of (sym p))))

-- a word among words as long ------------------------------------------------------------------------------------------------------------------------

seek_yes : (n : ℕ) (w ws : List ℕ) → same w (take (length w) ws) ≡ true → seek (suc n) w ws ≡ 0
unfolding seek
seek_yes n w ws h = rw h

seek_no : (n : ℕ) (w ws : List ℕ) → same w (take (length w) ws) ≡ false → seek (suc n) w ws ≡ suc (seek n w (drop (length w) ws))
unfolding seek
seek_no n w ws h = rw h

pub seek_none : (n : ℕ) (w ws : List ℕ) → n ≡ 0 → seek n w ws ≡ 0
unfolding seek
seek_none n w ws z = rw z

-- the word that ends at e is the first of those that are left
module _ (b w : List ℕ) (e c j : ℕ) (l : length w ≤ e) (h : j < c) where
  left : c - j ≡ suc (c - (j + 1))
  left = omega arith

  word_at : part_of b (e - length w) e ≡ take (length w) (drop (e - length w) b)
  word_at = let q : e - (e - length w) ≡ length w = omega arith in ap (λ (n : ℕ). take n (drop (e - length w) b)) q

  pub seek_here : same w (part_of b (e - length w) e) ≡ true → j ≡ j + seek (c - j) w (drop (e - length w) b)
  seek_here t = let z = ap (λ (n : ℕ). seek n w (drop (e - length w) b)) left ∙ seek_yes (c - (j + 1)) w (drop (e - length w) b) (ap (same w) (sym word_at) ∙ t) in omega arith

  pub seek_later : same w (part_of b (e - length w) e) ≡ false → j + 1 + seek (c - (j + 1)) w (drop (e + length w - length w) b) ≡ j + seek (c - j) w (drop (e - length w) b)
  seek_later t =
      let q : e - length w + length w ≡ e + length w - length w = omega arith in
      let s : seek (c - j) w (drop (e - length w) b) ≡ suc (seek (c - (j + 1)) w (drop (e + length w - length w) b)) =
      ap (λ (n : ℕ). seek n w (drop (e - length w) b)) left
      ∙ seek_no (c - (j + 1)) w (drop (e - length w) b) (ap (same w) (sym word_at) ∙ t)
      ∙ ap (λ v. suc (seek (c - (j + 1)) w v)) (drop-drop (length w) (e - length w) b ∙ ap (λ (n : ℕ). drop n b) q) in
      omega arith

-- the first of them that is w, and none before it
pub seek_most : (c : ℕ) (w ws : List ℕ) → seek c w ws ≤ c
seek_most zero w ws = omega (arith, seek_none 0 w ws refl)
seek_most (suc c) w ws = go (same w (take (length w) ws)) refl (seek_most c w (drop (length w) ws))
  where
    go : (t : Bool) → same w (take (length w) ws) ≡ t → seek c w (drop (length w) ws) ≤ c → seek (suc c) w ws ≤ suc c
    go true e h = omega (arith, seek_yes c w ws e)
    go false e h = omega (arith, seek_no c w ws e)

seek_there : (c : ℕ) (w ws : List ℕ) → seek c w ws < c → same w (take (length w) (drop (seek c w ws * length w) ws)) ≡ true
seek_there zero w ws h = absurd (omega arith)
seek_there (suc c) w ws h = go (same w (take (length w) ws)) refl (seek_there c w (drop (length w) ws))
  where
    go : (t : Bool) → same w (take (length w) ws) ≡ t →
        (seek c w (drop (length w) ws) < c → same w (take (length w) (drop (seek c w (drop (length w) ws) * length w) (drop (length w) ws))) ≡ true) →
        same w (take (length w) (drop (seek (suc c) w ws * length w) ws)) ≡ true
    go true e again =
        let z : seek (suc c) w ws * length w ≡ 0 = ap (λ (n : ℕ). n * length w) (seek_yes c w ws e) ∙ omega arith in
        rw z e
    go false e again =
        let s = seek c w (drop (length w) ws) in
        let z : seek (suc c) w ws * length w ≡ length w + s * length w = ap (λ (n : ℕ). n * length w) (seek_no c w ws e) ∙ suc-mul s (length w) ∙ omega arith in
        rw (z, ← drop-drop (s * length w) (length w) ws) (again (omega (arith, seek_no c w ws e)))

-- a word among rows -----------------------------------------------------------------------------------------------------------------------------------

look_empty : (w : List ℕ) → lookup_in [] w ≡ None
unfolding lookup_in
look_empty w = refl

-- rows without the word are passed
look_append : (xs ys : List Row) (w : List ℕ) → lookup_in xs w ≡ None → lookup_in (xs ++ ys) w ≡ lookup_in ys w
look_append [] ys w h = refl
look_append (x ∷ xs) ys w h = go (same w x.word) refl (look_append xs ys w)
  where
    go : (t : Bool) → same w x.word ≡ t → (lookup_in xs w ≡ None → lookup_in (xs ++ ys) w ≡ lookup_in ys w) → lookup_in (x ∷ (xs ++ ys)) w ≡ lookup_in ys w
    go true e again = let z : ◌≡◌ {A = ℕ} 0 1 = cc (lookup_here x xs w e) in absurd (omega arith)
    go false e again = lookup_past x (xs ++ ys) w e ∙ again (sym (lookup_past x xs w e) ∙ h)

-- none of rows whose words are of other lengths
look_absent : (ls os ws w : List ℕ) → count_of (length w) ls ≡ 0 → sum ls ≤ length ws → lookup_in (cut ls os ws) w ≡ None
unfolding cut count_of sum
look_absent [] os ws w c h = look_empty w
look_absent (l ∷ ls) os ws w c h = go (l == length w) refl (λ n. look_absent ls (drop 1 os) (drop l ws) w n (omega (arith, length-drop l ws)))
  where
    go : (t : Bool) → (l == length w) ≡ t → (count_of (length w) ls ≡ 0 → lookup_in (cut ls (drop 1 os) (drop l ws)) w ≡ None) →
        lookup_in (cut (l ∷ ls) os ws) w ≡ None
    go true e again = let n : 1 + count_of (length w) ls ≡ 0 = rw e at c in absurd (omega arith)
    go false e again =
        let n : 0 + count_of (length w) ls ≡ 0 = rw e at c in
        let size = length-take-le l ws (omega arith) in
        lookup_past _ _ w (same_not w (take l ws) (λ p. eqb-false l (length w) e (sym size ∙ sym (ap length p))))
        ∙ again (omega arith)

-- nor of those of its length before the first that has it
look_before : (j c : ℕ) (os ws w : List ℕ) → j ≤ seek c w ws → lookup_in (cut (repeated j (length w)) os ws) w ≡ None
unfolding cut repeated
look_before zero c os ws w h = look_empty w
look_before (suc j) zero os ws w h = absurd (omega (arith, seek_none 0 w ws refl))
look_before (suc j) (suc c) os ws w h = go (same w (take (length w) ws)) refl (look_before j c (drop 1 os) (drop (length w) ws) w)
  where
    go : (t : Bool) → same w (take (length w) ws) ≡ t →
        (j ≤ seek c w (drop (length w) ws) → lookup_in (cut (repeated j (length w)) (drop 1 os) (drop (length w) ws)) w ≡ None) →
        lookup_in (cut (repeated (suc j) (length w)) os ws) w ≡ None
    go true e again = absurd (omega (arith, seek_yes c w ws e))
    go false e again = lookup_past _ _ w e ∙ again (omega (arith, seek_no c w ws e))

count_before : (m k : ℕ) (cs : List ℕ) → k + length cs ≤ m → count_of m (lengths_from k cs) ≡ 0
unfolding count_of lengths_from
count_before m k [] h = refl
count_before m k (c ∷ cs) h = count_other m k c (lengths_from (suc k) cs) (λ e. omega arith) ∙ count_before m (suc k) cs (omega arith)

-- where a word stands among rows: those before it do not have it
pub record Standing (ls ws w before behind : List ℕ) : Type 0 where
  pub lengths : ls ≡ before ++ length w ∷ behind
  pub none : (os : List ℕ) → lookup_in (cut before os ws) w ≡ None
  pub there : same w (take (length w) (drop (sum before) ws)) ≡ true

-- its row
abbrev pub row_at : List ℕ → List ℕ → List ℕ → List ℕ → Row
row_at before os ws w = record { word = take (length w) (drop (sum before) ws); command = slice_index os (length before) }

module _ {ls ws w before behind : List ℕ} (s : Standing ls ws w before behind) (os : List ℕ) where
  pub standing_rows : cut ls os ws ≡ cut before os ws ++ row_at before os ws w ∷ cut behind (drop (length before + 1) os) (drop (sum before + length w) ws)
  unfolding cut
  standing_rows =
      let n = length before in
      let z : n + 0 ≡ n = omega arith in
      let r : ℕ → Row = λ x. record { word = take (length w) (drop (sum before) ws); command = x } in
      ap (λ v. cut v os ws) s.lengths
      ∙ cut_two before (length w ∷ behind) os ws
      ∙ ap (λ (x : ℕ). cut before os ws ++ r x ∷ cut behind (drop 1 (drop n os)) (drop (length w) (drop (sum before) ws))) (get_or-drop n os 0 0 ∙ ap (λ (k : ℕ). slice_index os k) z)
      ∙ ap (λ v. cut before os ws ++ row_at before os ws w ∷ cut behind v (drop (length w) (drop (sum before) ws))) (drop-drop 1 n os)
      ∙ ap (λ v. cut before os ws ++ row_at before os ws w ∷ cut behind (drop (n + 1) os) v) (drop-drop (length w) (sum before) ws)

  pub standing_look : lookup_in (cut ls os ws) w ≡ Some (slice_index os (length before))
  standing_look =
      let rest = cut behind (drop (length before + 1) os) (drop (sum before + length w) ws) in
      ap (λ rs. lookup_in rs w) standing_rows
      ∙ look_append (cut before os ws) (row_at before os ws w ∷ rest) w (s.none os)
      ∙ lookup_here (row_at before os ws w) rest w s.there

-- lengths that are others, c of that of w, and others
sum_three : (xs ys : List ℕ) (c m : ℕ) → sum (xs ++ (repeated c m ++ ys)) ≡ sum xs + (c * m + sum ys)
sum_three xs ys c m = omega (arith, sum_append xs (repeated c m ++ ys), sum_append (repeated c m) ys, sum_repeated c m)

module _ (xs ys ws w : List ℕ) (c : ℕ) (nx : count_of (length w) xs ≡ 0) (ny : count_of (length w) ys ≡ 0) (room : sum (xs ++ (repeated c (length w) ++ ys)) ≤ length ws) where
  abbrev place : ℕ
  place = seek c w (drop (sum xs) ws)

  sums : sum (xs ++ (repeated c (length w) ++ ys)) ≡ sum xs + (c * length w + sum ys)
  sums = sum_three xs ys c (length w)

  -- none has it
  look_missing : (os : List ℕ) → place ≡ c → lookup_in (cut (xs ++ (repeated c (length w) ++ ys)) os ws) w ≡ None
  look_missing os h =
      let g = repeated c (length w) in
      let os1 = drop (length xs) os in
      let ws1 = drop (sum xs) ws in
      let k : sum xs ≤ length ws = omega (arith, sums) in
      let j : sum ys ≤ length (drop (sum g) ws1) = omega (arith, sums, sum_repeated c (length w), length-drop (sum g) ws1, length-drop (sum xs) ws) in
      ap (λ rs. lookup_in rs w) (cut_two xs (g ++ ys) os ws)
      ∙ look_append (cut xs os ws) (cut (g ++ ys) os1 ws1) w (look_absent xs os ws w nx k)
      ∙ ap (λ rs. lookup_in rs w) (cut_two g ys os1 ws1)
      ∙ look_append (cut g os1 ws1) (cut ys (drop (length g) os1) (drop (sum g) ws1)) w (look_before c c os1 ws1 w (omega arith))
      ∙ look_absent ys (drop (length g) os1) (drop (sum g) ws1) w ny j

  -- or the one at its place
  look_standing : place < c → Standing (xs ++ (repeated c (length w) ++ ys)) ws w (xs ++ repeated place (length w)) (repeated (c - (place + 1)) (length w) ++ ys)
  unfolding repeated
  look_standing h =
      let m = length w in
      let k : sum xs ≤ length ws = omega (arith, sums) in
      let n : c ≡ place + suc (c - (place + 1)) = omega arith in
      let p : sum (xs ++ repeated place m) ≡ sum xs + place * m = sum_append xs (repeated place m) ∙ ap (λ (i : ℕ). sum xs + i) (sum_repeated place m) in
      record {
        lengths =
            ap (λ (i : ℕ). xs ++ (repeated i m ++ ys)) n
            ∙ ap (λ v. xs ++ (v ++ ys)) (repeated_two place (suc (c - (place + 1))) m)
            ∙ ap (λ v. xs ++ v) (append_assoc (repeated place m) (m ∷ repeated (c - (place + 1)) m) ys)
            ∙ sym (append_assoc xs (repeated place m) (m ∷ (repeated (c - (place + 1)) m ++ ys)));
        none = λ os.
            ap (λ rs. lookup_in rs w) (cut_two xs (repeated place m) os ws)
            ∙ look_append (cut xs os ws) (cut (repeated place m) (drop (length xs) os) (drop (sum xs) ws)) w (look_absent xs os ws w nx k)
            ∙ look_before place c (drop (length xs) os) (drop (sum xs) ws) w (omega arith);
        there = rw (p, ← drop-drop (place * m) (sum xs) ws) (seek_there c w (drop (sum xs) ws) h);
      }

-- a word in a table -----------------------------------------------------------------------------------------------------------------------------------

count_append : (m : ℕ) (xs ys : List ℕ) → count_of m (xs ++ ys) ≡ count_of m xs + count_of m ys
unfolding count_of
count_append m [] ys = omega arith
count_append m (x ∷ xs) ys = omega (arith, count_append m xs ys)

-- the lengths before m, of m and behind
pub lengths_three : (b : List ℕ) (at m : ℕ) → 1 ≤ m → m ≤ word_limit → commands_at at ≤ length b →
    lengths_at b at 1 ≡ lengths_from 1 (part_of b (at + 1) (at + m)) ++ (repeated (byte_at b (at + m)) m ++ lengths_at b at (m + 1))
lengths_three b at m h k l =
    let xs = part_of b (at + 1) (at + m) in
    let n : 1 + length xs ≡ m = omega (arith, part_length b (at + 1) (at + m) (omega arith)) in
    ap (lengths_from 1) (sym (part_two b (at + 1) (at + m) (commands_at at) (omega arith) (omega arith)))
    ∙ from_append 1 xs (part_of b (at + m) (commands_at at))
    ∙ ap (λ (i : ℕ). lengths_from 1 xs ++ lengths_from i (part_of b (at + m) (commands_at at))) n
    ∙ ap (λ v. lengths_from 1 xs ++ v) (lengths_step b at m k l)

-- no word of the table is as long
module _ (at most : ℕ) (b w : List ℕ) where
  words_room : Framed at most b → 0 < byte_at b at → sum (lengths_at b at 1) ≤ length (drop (words_at at most) b)
  words_room f k = omega (arith, lengths_fit at most b f k, length-drop (words_at at most) b)

  pub table_unframed : framed at most b ≡ false → None ≡ lookup_in ((table at most).read b) w
  table_unframed h = sym (ap (λ rs. lookup_in rs w) (rows_unframed at most b h) ∙ look_empty w)

  pub table_empty : byte_at b at ≡ 0 → None ≡ lookup_in ((table at most).read b) w
  table_empty h = sym (ap (λ rs. lookup_in rs w) (rows_empty at most b h) ∙ look_empty w)

  table_absent : count_of (length w) (lengths_at b at 1) ≡ 0 → None ≡ lookup_in ((table at most).read b) w
  table_absent n = go (framed at most b) (dec_lt 0 (byte_at b at)) refl
    where
      go : (t : Bool) → Dec (0 < byte_at b at) → framed at most b ≡ t → None ≡ lookup_in ((table at most).read b) w
      go false d h = table_unframed h
      go true (no k) h = table_empty (omega arith)
      go true (yes k) h =
          sym (ap (λ rs. lookup_in rs w) (rows_are at most b h k)
          ∙ look_absent (lengths_at b at 1) (drop (commands_at at) b) (drop (words_at at most) b) w n (words_room (framed_told at most b h) k))

  pub table_short : length w < 1 → None ≡ lookup_in ((table at most).read b) w
  table_short h = table_absent (count_later (length w) 1 (part_of b (at + 1) (commands_at at)) h)

  pub table_long : word_limit < length w → None ≡ lookup_in ((table at most).read b) w
  table_long h =
      let l : length (part_of b (at + 1) (commands_at at)) ≤ word_limit = omega (arith, length-take (commands_at at - (at + 1)) (drop (at + 1) b)) in
      table_absent (count_before (length w) 1 (part_of b (at + 1) (commands_at at)) (omega arith))

-- words of m bytes: how many stand before them, of how many bytes
module _ (at most : ℕ) (b w : List ℕ) (one : 1 ≤ length w) (short : length w ≤ word_limit) (size : table_end at most ≤ length b) where
  abbrev before : List ℕ
  before = part_of b (at + 1) (at + length w)

  abbrev count : ℕ
  count = byte_at b (at + length w)

  three : lengths_at b at 1 ≡ lengths_from 1 before ++ (repeated count (length w) ++ lengths_at b at (length w + 1))
  three = lengths_three b at (length w) one short (omega arith)

  none_before : count_of (length w) (lengths_from 1 before) ≡ 0
  none_before = count_before (length w) 1 before (omega (arith, part_length b (at + 1) (at + length w) (omega arith)))

  none_behind : count_of (length w) (lengths_at b at (length w + 1)) ≡ 0
  none_behind = count_later (length w) (length w + 1) (part_of b (at + (length w + 1)) (commands_at at)) (omega arith)

  pub table_none : count ≡ 0 → None ≡ lookup_in ((table at most).read b) w
  unfolding repeated
  table_none z =
      let xs = lengths_from 1 before in
      let ys = lengths_at b at (length w + 1) in
      let e = three ∙ ap (λ (n : ℕ). xs ++ (repeated n (length w) ++ ys)) z in
      table_absent at most b w (ap (count_of (length w)) e ∙ count_append (length w) xs ys ∙ omega (arith, none_before, none_behind))

  module _ (h : framed at most b ≡ true) (k : 0 < byte_at b at) where
    room : sum (lengths_from 1 before ++ (repeated count (length w) ++ lengths_at b at (length w + 1))) ≤ length (drop (words_at at most) b)
    room = rw (← three) (words_room at most b w (framed_told at most b h) k)

    -- they end where the words end, or before
    pub group_bytes : words_at at most + sum (lengths_from 1 before) + count * length w ≤ length b
    group_bytes = omega (arith, room, sum_three (lengths_from 1 before) (lengths_at b at (length w + 1)) count (length w), length-drop (words_at at most) b)

    -- the one at p, as the code finds it
    module _ (p : ℕ) (e : p ≡ words_at at most + sum (lengths_from 1 before)) where
      abbrev found : ℕ
      found = seek count w (drop p b)

      found_is : seek count w (drop (sum (lengths_from 1 before)) (drop (words_at at most) b)) ≡ found
      found_is = ap (seek count w) (drop-drop (sum (lengths_from 1 before)) (words_at at most) b ∙ ap (λ (n : ℕ). drop n b) (sym e))

      pub table_missing : found ≡ count → None ≡ lookup_in ((table at most).read b) w
      table_missing n =
          let os = drop (commands_at at) b in
          let ws = drop (words_at at most) b in
          sym (ap (λ rs. lookup_in rs w) (rows_are at most b h k)
          ∙ ap (λ ls. lookup_in (cut ls os ws) w) three
          ∙ look_missing (lengths_from 1 before) (lengths_at b at (length w + 1)) ws w count none_before none_behind room os (found_is ∙ n))

      pub table_standing : found < count →
          Standing (lengths_at b at 1) (drop (words_at at most) b) w (lengths_from 1 before ++ repeated found (length w)) (repeated (count - (found + 1)) (length w) ++ lengths_at b at (length w + 1))
      table_standing n =
          rw (three, ← found_is)
          (look_standing (lengths_from 1 before) (lengths_at b at (length w + 1)) (drop (words_at at most) b) w count none_before none_behind room (rw found_is n))
