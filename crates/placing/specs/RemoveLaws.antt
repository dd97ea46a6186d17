-- A word taken out of a table: the rows without it, and the bytes that are written then.
-- Assumes nothing.
use Rattle.std.specs.Prelude.{◌≡◌, Bool, true, false, cond, List, [], ◌∷◌, ◌++◌, ℕ, zero, suc, ◌+◌, ◌-◌, ◌<◌, ◌≤◌, eqb, length, take, drop, get_or, set, Some, None}
use Rattle.std.proofs.Math.Path.{refl, sym, ap}
use Rattle.std.proofs.Common.{◌∙◌, arith, length-append, length-drop, length-set, take-suc, drop-drop, get_or-take, get_or-drop, eqb-true, ne_eqb}
use Rattle.std.proofs.lemmas.List.Edits.{sets}
use Rattle.std.proofs.Math.Seq.{length-sets}
use Rattle.std.proofs.lemmas.Bool.{eqb-false}
use Rattle.limits.specs.Limits.{word_limit}
use Rattle.scan.specs.Scan.{byte_at, part_of}
use Rattle.scan.specs.PartLaws.{part_length}
use Rattle.words.specs.Words.{Row, same, lookup_in}
use Rattle.fields.specs.SetsLaws.{byte_behind, part_behind}
use Rattle.words.specs.LookupLaws.{lookup_here, lookup_past}
use Rattle.tables.specs.Table.{lengths_of, commands_of, words_of, count_of, counts_from, lengths_from, sum, cut, commands_at, words_at, table_end, framed, table}
use Rattle.placing.specs.Change.{remove, has_word, removing}
use Rattle.tables.specs.Walk.{lengths_at}
use Rattle.tables.specs.PartsLaws.{cut_length, cut_lengths, sum_append, counts_again, commands_taken, words_taken}
use Rattle.tables.specs.FrameLaws.{framed_told, rows_are, write_is, lengths_count, lengths_fit}
use Rattle.placing.specs.WriteLaws.{There, there_part, there_behind, sets_past, sets_other}
use Rattle.placing.specs.AfterLaws.{remove_here, remove_past}
use Rattle.placing.specs.StoredLaws.{count_here, count_there, counts_there, lengths_append, commands_append, words_append}
use Rattle.tables.specs.FindLaws.{Standing, row_at, standing_rows, standing_look}
use Rattle.tables.specs.Seat.{Seated, seated_look}
use Rattle.store.specs.Splice.{sets_append}

-- bytes that are moved down -----------------------------------------------------------------------------------------------------------------------

part_more : (s : List ℕ) (a i : ℕ) → a ≤ i → i < length s → part_of s a (i + 1) ≡ part_of s a i ++ (byte_at s i ∷ [])
part_more s a i h k =
    let n : i + 1 - a ≡ suc (i - a) = omega arith in
    let q : a + (i - a) ≡ i = omega arith in
    ap (λ (j : ℕ). take j (drop a s)) n
    ∙ take-suc (drop a s) (i - a) 0 (omega (arith, length-drop a s))
    ∙ ap (λ (x : ℕ). part_of s a i ++ (x ∷ [])) (get_or-drop a s (i - a) 0 ∙ ap (byte_at s) q)

-- one more of them, from the first up
pub moved_down : (s b : List ℕ) (from i k : ℕ) → k ≤ from → from ≤ i → i < length s → b ≡ sets s (from - k) (part_of s from i) →
    set b (i - k) (byte_at b i) ≡ sets s (from - k) (part_of s from (i + 1))
moved_down s b from i k h j l e =
    let v = part_of s from i in
    let n : from - k + length v ≡ i - k = omega (arith, part_length s from i (omega arith)) in
    let x : byte_at b i ≡ byte_at s i = ap (λ r. byte_at r i) e ∙ byte_behind s (from - k) v i (omega arith) in
    ap (set b (i - k)) x
    ∙ ap (λ r. set r (i - k) (byte_at s i)) e
    ∙ ap (λ (m : ℕ). set (sets s (from - k) v) m (byte_at s i)) (sym n)
    ∙ sets_append s (from - k) v (byte_at s i ∷ [])
    ∙ ap (sets s (from - k)) (sym (part_more s from i j l))

-- one of several rows taken out: the number and the count of its length are one less, the commands behind i up to o are moved down by one,
-- the words behind p up to e by its length
abbrev pub taken_out : List ℕ → ℕ → ℕ → ℕ → ℕ → ℕ → ℕ → List ℕ
taken_out b at m i o p e = sets (sets (set (set b at (byte_at b at - 1)) (at + m) (byte_at b (at + m) - 1)) i (part_of b (i + 1) o)) p (part_of b (p + m) e)

-- two bytes are written, then those behind i and those behind p are moved down
module _ (s : List ℕ) (at m x y : ℕ) where
  abbrev two : List ℕ
  two = set (set s at x) (at + m) y

  pub two_size : length two ≡ length s
  two_size = length-set (set s at x) (at + m) y ∙ length-set s at x

  module _ (i o p e : ℕ) (h : at + m < i) (k : i < o) (l : o ≤ p) (f : e ≤ length s) (g : p + m ≤ e) where
    two_part : (a t : ℕ) → i ≤ a → part_of two a t ≡ part_of s a t
    two_part a t j = part_behind (set s at x) (at + m) (y ∷ []) a t (omega arith) ∙ part_behind s at (x ∷ []) a t (omega arith)

    module _ (r : List ℕ) (first : r ≡ sets two (i + 1 - 1) (part_of two (i + 1) o)) where
      pub first_size : length r ≡ length s
      first_size = ap length first ∙ length-sets two (i + 1 - 1) (part_of two (i + 1) o) ∙ two_size

      first_is : r ≡ sets two i (part_of s (i + 1) o)
      first_is =
          let n : i + 1 - 1 ≡ i = omega arith in
          first ∙ ap (λ (j : ℕ). sets two j (part_of two (i + 1) o)) n ∙ ap (sets two i) (two_part (i + 1) o (omega arith))

      module _ (q : List ℕ) (second : q ≡ sets r (p + m - m) (part_of r (p + m) e)) where
        pub second_size : length q ≡ length s
        second_size = ap length second ∙ length-sets r (p + m - m) (part_of r (p + m) e) ∙ first_size

        pub second_is : q ≡ sets (sets two i (part_of s (i + 1) o)) p (part_of s (p + m) e)
        second_is =
            let n : p + m - m ≡ p = omega arith in
            let v = part_of s (i + 1) o in
            let part : part_of r (p + m) e ≡ part_of s (p + m) e =
            ap (λ u. part_of u (p + m) e) first_is
            ∙ part_behind two i v (p + m) e (omega (arith, part_length s (i + 1) o (omega arith)))
            ∙ two_part (p + m) e (omega arith) in
            second
            ∙ ap (λ (j : ℕ). sets r j (part_of r (p + m) e)) n
            ∙ ap (sets r p) part
            ∙ ap (λ u. sets u p (part_of s (p + m) e)) first_is

-- rows ------------------------------------------------------------------------------------------------------------------------------------------------

-- the first row that has it
remove_at : (w : List ℕ) (xs : List Row) (r : Row) (ys : List Row) → lookup_in xs w ≡ None → same w r.word ≡ true → remove w (xs ++ r ∷ ys) ≡ xs ++ ys
remove_at w [] r ys n h = remove_here r ys w h
remove_at w (x ∷ xs) r ys n h = go (same w x.word) refl (λ k. remove_at w xs r ys k h)
  where
    go : (t : Bool) → same w x.word ≡ t → (lookup_in xs w ≡ None → remove w (xs ++ r ∷ ys) ≡ xs ++ ys) → remove w (x ∷ (xs ++ r ∷ ys)) ≡ x ∷ (xs ++ ys)
    go true e again = let z : ◌≡◌ {A = ℕ} 0 1 = cc (lookup_here x xs w e) in absurd (omega arith)
    go false e again = remove_past x (xs ++ r ∷ ys) w e ∙ ap (λ rs. x ∷ rs) (again (sym (lookup_past x xs w e) ∙ n))

-- counts with one less ----------------------------------------------------------------------------------------------------------------------------------

counts_less : (k j m : ℕ) (xs ys : List ℕ) → j ≤ m → m < j + k →
    counts_from k j (xs ++ ys) ≡ set (counts_from k j (xs ++ m ∷ ys)) (m - j) (get_or (counts_from k j (xs ++ m ∷ ys)) (m - j) 0 - 1)
unfolding counts_from
counts_less zero j m xs ys h l = absurd (omega arith)
counts_less (suc k) j m xs ys h l = go (eqb j m) refl (λ i. counts_less k (suc j) m xs ys i (omega arith))
  where
    go : (t : Bool) → eqb j m ≡ t →
        (suc j ≤ m → counts_from k (suc j) (xs ++ ys) ≡ set (counts_from k (suc j) (xs ++ m ∷ ys)) (m - suc j) (get_or (counts_from k (suc j) (xs ++ m ∷ ys)) (m - suc j) 0 - 1)) →
        counts_from (suc k) j (xs ++ ys) ≡ set (counts_from (suc k) j (xs ++ m ∷ ys)) (m - j) (get_or (counts_from (suc k) j (xs ++ m ∷ ys)) (m - j) 0 - 1)
    go true e again =
        let q = eqb-true j m e in
        let z : m - j ≡ 0 = omega arith in
        let c : count_of j (xs ++ ys) ≡ count_of j (xs ++ m ∷ ys) - 1 =
        omega (arith, ap (λ (i : ℕ). count_of i (xs ++ ys)) q, ap (λ (i : ℕ). count_of i (xs ++ m ∷ ys)) q, count_here m xs ys) in
        rw (z, c) (ap (λ v. (count_of j (xs ++ m ∷ ys) - 1) ∷ v) (sym (counts_there k (suc j) m xs ys (omega arith))))
    go false e again =
        let n = eqb-false j m e in
        let z : m - j ≡ suc (m - suc j) = omega arith in
        rw (z, ← count_there j m xs ys (λ q. n (sym q))) (ap (λ v. count_of j (xs ++ m ∷ ys) ∷ v) (again (omega arith)))

-- the table without the word ----------------------------------------------------------------------------------------------------------------------------

-- it is not there
pub removed_not : (at most : ℕ) (b w : List ℕ) → None ≡ lookup_in ((table at most).read b) w → (false ≡ has_word at most w b) × (b ≡ removing at most w b)
unfolding has_word removing
removed_not at most b w h = rw (← h) (refl, refl)

taken : (b : List ℕ) (a i n p e : ℕ) → p ≡ a + i → e ≡ p + n → take n (drop i (drop a b)) ≡ part_of b p e
taken b a i n p e h k =
    let q : n ≡ e - p = omega arith in
    ap (take n) (drop-drop i a b ∙ ap (λ (j : ℕ). drop j b) (sym h)) ∙ ap (λ (j : ℕ). take j (drop p b)) q

no_rows : (rs : List Row) → length rs ≡ 0 → rs ≡ []
no_rows [] h = refl
no_rows (r ∷ rs) h = absurd (omega arith)

-- it stands there
module _ (at most : ℕ) (b w before behind : List ℕ) (f : framed at most b ≡ true) (k : 0 < byte_at b at) (one : 1 ≤ length w) (short : length w ≤ word_limit)
    (s : Standing (lengths_at b at 1) (drop (words_at at most) b) w before behind) where
  abbrev os : List ℕ
  os = drop (commands_at at) b

  abbrev ws : List ℕ
  ws = drop (words_at at most) b

  abbrev xs : List Row
  xs = cut before os ws

  abbrev ys : List Row
  ys = cut behind (drop (length before + 1) os) (drop (sum before + length w) ws)

  rows_left : remove w ((table at most).read b) ≡ xs ++ ys
  rows_left = ap (remove w) (rows_are at most b f k ∙ standing_rows s os) ∙ remove_at w xs (row_at before os ws w) ys (s.none os) s.there

  rows_count : length before + suc (length behind) ≡ byte_at b at
  rows_count = sym (length-append before (length w ∷ behind)) ∙ ap length (sym s.lengths) ∙ lengths_count at most b (framed_told at most b f) k

  words_count : sum before + (length w + sum behind) ≡ sum (lengths_at b at 1)
  unfolding sum
  words_count = sym (sum_append before (length w ∷ behind)) ∙ ap sum (sym s.lengths)

  size : table_end at most ≤ length b
  size = (framed_told at most b f).size

  rows_few : byte_at b at ≤ most
  rows_few = (framed_told at most b f).few

  words_few : words_at at most + sum (lengths_at b at 1) ≤ length b
  words_few = lengths_fit at most b (framed_told at most b f) k

  left_count : length (xs ++ ys) ≡ byte_at b at - 1
  left_count = omega (arith, length-append xs ys, cut_length before os ws, cut_length behind (drop (length before + 1) os) (drop (sum before + length w) ws), rows_count)

  left_lengths : lengths_of (xs ++ ys) ≡ before ++ behind
  left_lengths =
      let v = drop (sum before + length w) ws in
      let lw = length-drop (words_at at most) b in
      let x = cut_lengths before os ws (omega (arith, words_count, words_few)) in
      let y = cut_lengths behind (drop (length before + 1) os) v (omega (arith, words_count, words_few, length-drop (sum before + length w) ws)) in
      lengths_append xs ys ∙ ap (λ u. u ++ lengths_of ys) x ∙ ap (λ u. before ++ u) y

  left_commands : commands_of (xs ++ ys) ≡
      part_of b (commands_at at) (commands_at at + length before) ++ part_of b (commands_at at + length before + 1) (commands_at at + byte_at b at)
  left_commands =
      let n = length before in
      let lo = length-drop (commands_at at) b in
      let x = commands_taken before os ws (omega (arith, rows_count, rows_few, size)) in
      let y = commands_taken behind (drop (n + 1) os) (drop (sum before + length w) ws) (omega (arith, rows_count, rows_few, size, length-drop (n + 1) os)) in
      commands_append xs ys
      ∙ ap (λ u. u ++ commands_of ys) (x ∙ taken b (commands_at at) 0 n (commands_at at) (commands_at at + n) (omega arith) refl)
      ∙ ap (λ u. part_of b (commands_at at) (commands_at at + n) ++ u)
      (y ∙ taken b (commands_at at) (n + 1) (length behind) (commands_at at + n + 1) (commands_at at + byte_at b at) (omega arith) (omega (arith, rows_count)))

  left_words : words_of (xs ++ ys) ≡
      part_of b (words_at at most) (words_at at most + sum before) ++ part_of b (words_at at most + sum before + length w) (words_at at most + sum (lengths_at b at 1))
  left_words =
      let n = sum before in
      let a = words_at at most in
      words_append xs ys
      ∙ ap (λ u. u ++ words_of ys) (words_taken before os ws ∙ taken b a 0 n a (a + n) (omega arith) refl)
      ∙ ap (λ u. part_of b a (a + n) ++ u)
      (words_taken behind (drop (length before + 1) os) (drop (n + length w) ws)
      ∙ taken b a (n + length w) (sum behind) (a + n + length w) (a + sum (lengths_at b at 1)) (omega arith) (omega (arith, words_count)))

  abbrev counts : List ℕ
  counts = part_of b (at + 1) (commands_at at)

  counts_size : length counts ≡ word_limit
  counts_size = part_length b (at + 1) (commands_at at) (omega (arith, size)) ∙ omega arith

  counts_at : byte_at counts (length w - 1) ≡ byte_at b (at + length w)
  counts_at =
      let q : at + 1 + (length w - 1) ≡ at + length w = omega arith in
      get_or-take (commands_at at - (at + 1)) (drop (at + 1) b) (length w - 1) 0 (omega arith) ∙ get_or-drop (at + 1) b (length w - 1) 0 ∙ ap (byte_at b) q

  left_counts : counts_from word_limit 1 (before ++ behind) ≡ set counts (length w - 1) (byte_at b (at + length w) - 1)
  left_counts =
      let c : counts_from word_limit 1 (before ++ length w ∷ behind) ≡ counts =
      ap (counts_from word_limit 1) (sym s.lengths) ∙ ap (λ (n : ℕ). counts_from n 1 (lengths_from 1 counts)) (sym counts_size) ∙ counts_again 1 counts in
      counts_less word_limit 1 (length w) before behind one (omega arith)
      ∙ ap (λ v. set v (length w - 1) (get_or v (length w - 1) 0 - 1)) c
      ∙ ap (λ (n : ℕ). set counts (length w - 1) (n - 1)) counts_at

  known : lookup_in ((table at most).read b) w ≡ Some (get_or os (length before) 0)
  known = ap (λ rs. lookup_in rs w) (rows_are at most b f k) ∙ standing_look s os

  removed : (q : List ℕ) → q ≡ (table at most).write (remove w ((table at most).read b)) b → q ≡ removing at most w b
  unfolding has_word removing
  removed q e = rw known e

  -- the only word: one byte is written
  removed_only : byte_at b at ≡ 1 → set b at 0 ≡ removing at most w b
  unfolding commands_of words_of
  removed_only h = removed (set b at 0) (sym (ap (λ rs. (table at most).write rs b) (rows_left ∙ no_rows (xs ++ ys) (omega (arith, left_count))) ∙ write_is at most b []))

  -- one of several: the number, the count, the commands behind it, the words behind it
  module _ (more : 1 < byte_at b at) where
    abbrev first : List ℕ
    first = set b at (byte_at b at - 1)

    abbrev second : List ℕ
    second = set first (at + length w) (byte_at b (at + length w) - 1)

    abbrev third : List ℕ
    third = sets second (commands_at at + length before) (part_of b (commands_at at + length before + 1) (commands_at at + byte_at b at))

    abbrev fourth : List ℕ
    fourth = sets third (words_at at most + sum before) (part_of b (words_at at most + sum before + length w) (words_at at most + sum (lengths_at b at 1)))

    write_count : sets first (at + 1) (cond (eqb (byte_at b at - 1) 0) [] (counts_from word_limit 1 (before ++ behind))) ≡ second
    write_count =
        let q : at + 1 + (length w - 1) ≡ at + length w = omega arith in
        let t : There first (at + 1) counts = there_behind at ((byte_at b at - 1) ∷ []) (there_part b (at + 1) (commands_at at) (omega arith) (omega (arith, size))) (omega arith) in
        rw (ne_eqb (byte_at b at - 1) 0 (λ e. omega arith), left_counts)
        (sets_other (length w - 1) (byte_at b (at + length w) - 1) t (omega (arith, counts_size)) ∙ ap (λ (n : ℕ). set first n (byte_at b (at + length w) - 1)) q)

    -- a part behind the counts is as it was
    there_second : (a e : ℕ) → commands_at at ≤ a → a ≤ e → e ≤ length b → There second a (part_of b a e)
    there_second a e h l g =
        there_behind (at + length w) ((byte_at b (at + length w) - 1) ∷ []) (there_behind at ((byte_at b at - 1) ∷ []) (there_part b a e l g) (omega arith)) (omega arith)

    write_commands : sets second (commands_at at) (commands_of (xs ++ ys)) ≡ third
    write_commands =
        let a = commands_at at in
        let v = part_of b (a + length before + 1) (a + byte_at b at) in
        let n : a + length (part_of b a (a + length before)) ≡ a + length before = omega (arith, part_length b a (a + length before) (omega (arith, rows_count, rows_few, size))) in
        ap (sets second a) left_commands
        ∙ sets_past v (there_second a (a + length before) (omega arith) (omega arith) (omega (arith, rows_count, rows_few, size)))
        ∙ ap (λ (j : ℕ). sets second j v) n

    write_words : sets third (words_at at most) (words_of (xs ++ ys)) ≡ fourth
    write_words =
        let a = words_at at most in
        let c = commands_at at in
        let i = c + length before in
        let u = part_of b (i + 1) (c + byte_at b at) in
        let v = part_of b (a + sum before + length w) (a + sum (lengths_at b at 1)) in
        let z : a + sum before ≤ length b = omega (arith, words_count, words_few) in
        let n : a + length (part_of b a (a + sum before)) ≡ a + sum before = omega (arith, part_length b a (a + sum before) z) in
        let l : i + length u ≤ a = omega (arith, part_length b (i + 1) (c + byte_at b at) (omega (arith, rows_few, size)), rows_count, rows_few) in
        ap (sets third a) left_words
        ∙ sets_past v (there_behind i u (there_second a (a + sum before) (omega arith) (omega arith) z) l)
        ∙ ap (λ (j : ℕ). sets third j v) n

    -- all four
    abbrev writes : ℕ → List ℕ → List ℕ
    writes n ls = sets (sets (sets (set b at n) (at + 1) (cond (eqb n 0) [] (counts_from word_limit 1 ls))) (commands_at at) (commands_of (xs ++ ys))) (words_at at most) (words_of (xs ++ ys))

    written : (table at most).write (remove w ((table at most).read b)) b ≡ fourth
    written =
        ap (λ rs. (table at most).write rs b) rows_left
        ∙ write_is at most b (xs ++ ys)
        ∙ ap (λ (n : ℕ). writes n (lengths_of (xs ++ ys))) left_count
        ∙ ap (writes (byte_at b at - 1)) left_lengths
        ∙ ap (λ v. sets (sets v (commands_at at) (commands_of (xs ++ ys))) (words_at at most) (words_of (xs ++ ys))) write_count
        ∙ ap (λ v. sets v (words_at at most) (words_of (xs ++ ys))) write_commands
        ∙ write_words

    removed_one : fourth ≡ removing at most w b
    removed_one = removed fourth (sym written)

-- as the code finds it ------------------------------------------------------------------------------------------------------------------------------------

module _ {at most : ℕ} {b w : List ℕ} {n p : ℕ} (s : Seated at most b w n p) where
  pub seated_has : true ≡ has_word at most w b
  unfolding has_word
  seated_has = rw (← seated_look s (commands_at at + n) refl) refl

  pub seated_only : byte_at b at ≡ 1 → set b at 0 ≡ removing at most w b
  seated_only = removed_only at most b w s.before s.behind s.frame s.some s.one s.short s.standing

  pub seated_one : (i o e : ℕ) → i ≡ commands_at at + n → o ≡ commands_at at + byte_at b at → e ≡ words_at at most + sum (lengths_at b at 1) → 1 < byte_at b at →
      taken_out b at (length w) i o p e ≡ removing at most w b
  seated_one i o e f g h k =
      rw (f, g, h, s.row, s.place) (removed_one at most b w s.before s.behind s.frame s.some s.one s.short s.standing k)
