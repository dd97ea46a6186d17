-- Laws of a word that is put into a table: what is written where it is the first, where it is there already, where it is one more; and where
-- there is no place for it.
-- Assumes nothing.
use Rattle.std.specs.Prelude.{◌≡◌, Bool, false, not, ◌&&◌, ℕ, zero, suc, ◌+◌, ◌-◌, ◌*◌, ◌<◌, ◌≤◌, ltb, drop, set, Option, Some, None}
use Rattle.std.proofs.Math.Path.{refl, sym, ap}
use Rattle.std.proofs.Common.{◌∙◌, mul-le-mul_right, length-append, length-set, get_or-take, get_or-drop}
use Rattle.std.proofs.Math.Bool.{true, cond, and-false}
use mathlib.Core.List.{List, [], ◌∷◌, ◌++◌, append-nil}
use native.Mathlib.Omega.{arith}
use Rattle.std.proofs.Math.Dec.{leb}
use Rattle.std.proofs.Math.ListN.{length}
use Rattle.std.proofs.Math.Seq.{sets, length-sets}
use borrow.Author.Tests.{ltb-true, le-leb, lt-leb}
use Rattle.limits.specs.Limits.{word_limit}
use Rattle.scan.specs.PartLaws.{part_length}
use Rattle.scan.specs.Scan.{byte_at, part_of}
use Rattle.words.specs.Words.{Row, same, lookup_in}
use Rattle.words.specs.LookupLaws.{same_refl, lookup_here}
use Rattle.fields.specs.Field.{Bytes}
use Rattle.fields.specs.SetsLaws.{part_behind}
use Rattle.fields.specs.BoolLaws.{and_both}
use Rattle.tables.specs.Table.{good_rows, lengths_of, commands_of, words_of, count_of, counts_from, lengths_from, sum, commands_at, words_at, framed, table}
use Rattle.placing.specs.Change.{row, insert, is_full, has_place, inserting}
use Rattle.tables.specs.Walk.{lengths_at, rank}
use Rattle.tables.specs.FrameLaws.{framed_told, rows_empty, write_is}
use Rattle.placing.specs.AfterLaws.{insert_same}
use Rattle.placing.specs.KeepLaws.{rows_told, not_later}
use Rattle.placing.specs.ChangeLaws.{rank_most, rows_fit, ahead, insert_beyond, insert_ahead, lookup_beyond}
use Rattle.placing.specs.StoredLaws.{Stored, stored, stored_words, words_append, write_other, write_new}
use Rattle.placing.specs.PlaceLaws.{group_few, first_rows, last_rows, next_rows, command, rows_two, first_count, first_bytes, first_before, last_known, last_ahead}
use Rattle.placing.specs.Insert.{with_first, with_new, Among, Opening, Located}
use Rattle.tables.specs.FindLaws.{group_bytes}

-- whether there is no place ----------------------------------------------------------------------------------------------------------------------------

module _ (most : ℕ) (rs : List Row) (w : List ℕ) where
  full_known : (n : ℕ) → lookup_in rs w ≡ Some n → is_full most rs w ≡ false
  unfolding is_full
  full_known n e = rw e

  full_new : lookup_in rs w ≡ None → is_full most rs w ≡ leb most (length rs)
  unfolding is_full
  full_new e = rw e

  full_room : length rs < most → is_full most rs w ≡ false
  full_room h = go (lookup_in rs w) refl
    where
      go : (m : Option ℕ) → lookup_in rs w ≡ m → is_full most rs w ≡ false
      go (Some n) e = full_known n e
      go None e = full_new e ∙ lt-leb most (length rs) h

-- of good rows, a word ahead of which the last of them stand is in none of these
ahead_unknown : (w before : List ℕ) (xs ys : List Row) → good_rows before (xs ++ ys) ≡ true → ahead w ys ≡ true → lookup_in ys w ≡ None
unfolding ahead lookup_in
ahead_unknown w before [] [] g a = refl
ahead_unknown w before [] (y ∷ ys) g a = not_later w before y ys g a
ahead_unknown w before (x ∷ xs) ys g a = ahead_unknown w x.word xs ys (rows_told before x (xs ++ ys) g).1 a

-- the first word -----------------------------------------------------------------------------------------------------------------------------------------

module _ (at most : ℕ) (b w : List ℕ) (c : ℕ) (none : byte_at b at ≡ 0) where
  first_full : is_full most ((table at most).read b) w ≡ leb most 0
  unfolding lookup_in
  first_full = ap (λ rs. is_full most rs w) (rows_empty at most b none) ∙ full_new most [] w refl

  first_written : (table at most).write (insert w c ((table at most).read b)) b ≡ with_first at most w c b
  unfolding insert with_first lengths_of commands_of words_of
  first_written =
      ap (λ rs. (table at most).write (insert w c rs) b) (rows_empty at most b none)
      ∙ write_is at most b (row w c ∷ [])
      ∙ ap (λ v. sets (set (sets (set b at 1) (at + 1) (counts_from word_limit 1 (length w ∷ []))) (commands_at at) c) (words_at at most) v) (append-nil w)

-- among others -------------------------------------------------------------------------------------------------------------------------------------------

module _ (at most : ℕ) (b w : List ℕ) (c j : ℕ) (h : framed at most b ≡ true) (some : 0 < byte_at b at) (one : 1 ≤ length w) (short : length w ≤ word_limit)
    (e : j ≡ rank (byte_at b (at + length w)) w (drop (words_at at most + sum (lengths_from 1 (part_of b (at + 1) (at + length w)))) b)) where
  abbrev rows : List Row
  rows = (table at most).read b

  abbrev xs : List Row
  xs = first_rows at most b w j

  abbrev ys : List Row
  ys = last_rows at most b w j

  abbrev up_to : ℕ
  up_to = sum (part_of b (at + 1) (at + length w)) + j

  abbrev from : ℕ
  from = words_at at most + sum (lengths_from 1 (part_of b (at + 1) (at + length w))) + j * length w

  abbrev here : List ℕ
  here = part_of b from (from + length w)

  are : rows ≡ xs ++ ys
  are = rows_two at most b w j h some one short e

  stored_two : Stored at most b (xs ++ ys)
  stored_two = rw (← are) (stored at most b h some)

  -- it is there
  module _ (less : j < byte_at b (at + length w)) (alike : same w here ≡ true) where
    abbrev k : ℕ
    k = command at most b w j h some one short e less

    abbrev zs : List Row
    zs = next_rows at most b w j h some one short e less

    known_rows : rows ≡ xs ++ row w k ∷ zs
    known_rows = are ∙ ap (λ v. xs ++ v) (last_known at most b w j h some one short e less alike)

    known_full : is_full most rows w ≡ false
    known_full =
        full_known most rows w k
        (ap (λ v. lookup_in v w) known_rows ∙ lookup_beyond w xs (row w k ∷ zs) (first_before at most b w j h some one short e) ∙ lookup_here (row w k) zs w (same_refl w))

    known_set : (table at most).write (insert w c rows) b ≡ set b (commands_at at + up_to) c
    known_set =
        let s : Stored at most b (xs ++ row w k ∷ zs) = rw (← known_rows) (stored at most b h some) in
        ap (λ v. (table at most).write (insert w c v) b) known_rows
        ∙ ap (λ v. (table at most).write v b) (insert_beyond w c xs (row w k ∷ zs) (first_before at most b w j h some one short e) ∙ ap (λ v. xs ++ v) (insert_same (row w k) zs w c (same_refl w)))
        ∙ write_other at most b xs (row w k) zs s c
        ∙ ap (λ (i : ℕ). set b (commands_at at + i) c) (first_count at most b w j h some one short e)

  -- it is not there
  module _ (bytes : Bytes b) (word : Bytes w) (other : (ltb j (byte_at b (at + length w)) && same w here) ≡ false) where
    before_last : ahead w ys ≡ true
    before_last = last_ahead at most b w j h some one short e bytes word other

    new_full : most ≤ byte_at b at → good_rows [] rows ≡ true → is_full most rows w ≡ true
    new_full l g =
        let u : lookup_in rows w ≡ None =
        ap (λ v. lookup_in v w) are ∙ lookup_beyond w xs ys (first_before at most b w j h some one short e) ∙ ahead_unknown w [] xs ys (ap (good_rows []) (sym are) ∙ g) before_last in
        full_new most rows w u ∙ le-leb most (length rows) (omega (arith, (stored at most b h some).number))

    new_room : byte_at b at < most → is_full most rows w ≡ false
    new_room l = full_room most rows w (omega (arith, (stored at most b h some).number))

    new_sets : byte_at b at < most → (table at most).write (insert w c rows) b ≡ with_new at most up_to from w c b
    unfolding with_new
    new_sets l =
        let p = first_bytes at most b w j h some one short e in
        let q : length (words_of (xs ++ ys)) ≡ sum (lengths_at b at 1) = ap (λ v. length (words_of v)) (sym are) ∙ stored_words at most b h some in
        ap (λ v. (table at most).write (insert w c v) b) are
        ∙ ap (λ v. (table at most).write v b) (insert_beyond w c xs ys (first_before at most b w j h some one short e) ∙ ap (λ v. xs ++ v) (insert_ahead w c ys before_last))
        ∙ write_new at most b xs ys w c stored_two (omega (arith, stored_two.number)) one short
        ∙ rw (first_count at most b w j h some one short e, p, q)

-- where it goes
module _ (at most : ℕ) (b w : List ℕ) (p : Among at most b w) where
  abbrev lower : List ℕ
  lower = part_of b (at + 1) (at + length w)

  abbrev own : ℕ
  own = byte_at b (at + length w)

  abbrev start : ℕ
  start = words_at at most + sum (lengths_from 1 lower)

  -- its row and its place are numbers that the table has
  fits : start + own * length w ≤ length b
  fits = group_bytes at most b w p.one p.short (framed_told at most b p.framed).size p.framed p.some

  module _ (place j : ℕ) (at-start : place ≡ start) (ranked : j ≡ rank own w (drop place b)) where
    j_most : j ≤ own
    j_most = omega (arith, rank_most own w (drop place b))

    pub spot_few : (rows : ℕ) → rows ≡ sum lower → rows + j ≤ 255
    spot_few rows e = omega (arith, j_most, group_few at most b w p.framed p.some p.one p.short, (framed_told at most b p.framed).few, p.small)

    pub spot_fits : place + j * length w ≤ length b
    spot_fits = omega (arith, fits, mul-le-mul_right (length w) j_most)

    pub spot_more : j < own → place + j * length w + length w ≤ length b
    spot_more l = omega (arith, fits, rows_fit j own (length w) l)

  abbrev hit : ℕ → ℕ → Bool
  hit place j = ltb j own && same w (part_of b (place + j * length w) (place + j * length w + length w))

  located_at : Bytes b → Bytes w → (j : ℕ) (there : Bool) → j ≡ rank own w (drop start b) → there ≡ hit start j → Located at most b w (sum lower + j) (start + j * length w) there
  located_at bytes word j there e t =
      let first = first_rows at most b w j in
      let last = last_rows at most b w j in
      let two = rows_two at most b w j p.framed p.some p.one p.short e in
      let count = first_count at most b w j p.framed p.some p.one p.short e in
      let place = first_bytes at most b w j p.framed p.some p.one p.short e in
      let s = stored at most b p.framed p.some in
      let long = stored_words at most b p.framed p.some in
      let other : there ≡ false → hit start j ≡ false = λ h. sym t ∙ h in
      let both : there ≡ true → (ltb j own ≡ true) × (same w (part_of b (start + j * length w) (start + j * length w + length w)) ≡ true) = λ h. and_both (ltb j own) _ (sym t ∙ h) in
      record {
        above = omega (arith, s.number, ap length two, length-append first last, count);
        least = omega arith;
        greatest = omega (arith, place, long, ap (λ rs. length (words_of rs)) two, ap length (words_append first last), length-append (words_of first) (words_of last));
        known = λ h. known_full at most b w 0 j p.framed p.some p.one p.short e (ltb-true j own (both h).0) (both h).1;
        known_written = λ h c. known_set at most b w c j p.framed p.some p.one p.short e (ltb-true j own (both h).0) (both h).1;
        full = λ h l. new_full at most b w 0 j p.framed p.some p.one p.short e bytes word (other h) l p.good;
        new = λ h l. new_room at most b w 0 j p.framed p.some p.one p.short e bytes word (other h) l;
        new_written = λ h l c. new_sets at most b w c j p.framed p.some p.one p.short e bytes word (other h) l;
      }

  pub located : Bytes b → Bytes w → (rows place j : ℕ) (there : Bool) → rows ≡ sum lower → place ≡ start → j ≡ rank own w (drop place b) → there ≡ hit place j →
      Located at most b w (rows + j) (place + j * length w) there
  located bytes word rows place j there er ep ej et =
      rw (er, ep) (located_at bytes word j there (ej ∙ ap (λ (x : ℕ). rank own w (drop x b)) ep) (et ∙ ap (λ (x : ℕ). hit x j) ep))

-- the counts of one word, one after the other --------------------------------------------------------------------------------------------------------------

pub counts_step : (t k : ℕ) (ls : List ℕ) → k < t → counts_from (t - k) (k + 1) ls ≡ count_of (k + 1) ls ∷ counts_from (t - (k + 1)) (k + 1 + 1) ls
unfolding counts_from
counts_step t k ls h =
    let n : t - k ≡ suc (t - (k + 1)) = omega arith in
    let m : suc (k + 1) ≡ k + 1 + 1 = omega arith in
    ap (λ (i : ℕ). counts_from i (k + 1) ls) n ∙ ap (λ (i : ℕ). count_of (k + 1) ls ∷ counts_from (t - (k + 1)) i ls) m

pub counts_end : (t k : ℕ) (ls : List ℕ) → t ≤ k → counts_from (t - k) (k + 1) ls ≡ []
unfolding counts_from
counts_end t k ls h = let n : t - k ≡ 0 = omega arith in ap (λ (i : ℕ). counts_from i (k + 1) ls) n

-- what is written one after the other ------------------------------------------------------------------------------------------------------------------------

-- no more words of one length than words
most_of : (v : List ℕ) (j : ℕ) → byte_at v j ≤ sum v
unfolding sum
most_of [] j = omega arith
most_of (x ∷ v) zero = omega arith
most_of (x ∷ v) (suc j) = omega (arith, most_of v j)

pub count_most : (at most : ℕ) (b : List ℕ) (m : ℕ) → framed at most b ≡ true → 0 < byte_at b at → 1 ≤ m → m ≤ word_limit → byte_at b (at + m) ≤ byte_at b at
count_most at most b m h k l u =
    let f = framed_told at most b h in
    let v = part_of b (at + 1) (commands_at at) in
    let p : at + 1 + (m - 1) ≡ at + m = omega arith in
    let e : byte_at v (m - 1) ≡ byte_at b (at + m) =
    get_or-take (commands_at at - (at + 1)) (drop (at + 1) b) (m - 1) 0 (omega arith) ∙ get_or-drop (at + 1) b (m - 1) 0 ∙ ap (byte_at b) p in
    omega (arith, most_of v (m - 1), f.total k)

module _ (at most row place : ℕ) (w : List ℕ) (c : ℕ) (b : List ℕ) where
  abbrev numbered : List ℕ
  numbered = set (set b at (byte_at b at + 1)) (at + length w) (byte_at b (at + length w) + 1)

  abbrev row_at : ℕ
  row_at = at + 1 + word_limit + row

  abbrev rows_end : ℕ
  rows_end = at + 1 + word_limit + byte_at b at

  abbrev end : ℕ
  end = words_at at most + sum (lengths_at b at 1)

  module _ (r : List ℕ) (e : r ≡ sets numbered row_at (c ∷ part_of numbered row_at rows_end)) where
    pub made_length : length r ≡ length b
    made_length =
        ap length e
        ∙ length-sets numbered row_at (c ∷ part_of numbered row_at rows_end)
        ∙ length-set (set b at (byte_at b at + 1)) (at + length w) (byte_at b (at + length w) + 1)
        ∙ length-set b at (byte_at b at + 1)

    module _ (z : ℕ) (g : z ≡ end) (t : List ℕ) (f : t ≡ sets r place (w ++ part_of r place z)) where
      pub new_length : length t ≡ length b
      new_length = ap length f ∙ length-sets r place (w ++ part_of r place z) ∙ made_length

      pub new_made : Opening at most b w row place → t ≡ with_new at most row place w c b
      unfolding with_new
      new_made o =
          let size = (framed_told at most b o.framed).size in
          let q = commands_at at + row in
          let q' = commands_at at + byte_at b at in
          let i : row_at ≡ q = omega arith in
          let j : rows_end ≡ q' = omega arith in
          let p : part_of numbered q q' ≡ part_of b q q' =
          part_behind (set b at (byte_at b at + 1)) (at + length w) ((byte_at b (at + length w) + 1) ∷ []) q q' (omega arith)
          ∙ part_behind b at ((byte_at b at + 1) ∷ []) q q' (omega arith) in
          let m : r ≡ sets numbered q (c ∷ part_of b q q') =
          e ∙ ap (λ (x : ℕ). sets numbered x (c ∷ part_of numbered x rows_end)) i ∙ ap (λ (x : ℕ). sets numbered q (c ∷ part_of numbered q x)) j ∙ ap (λ v. sets numbered q (c ∷ v)) p in
          let n : length (part_of b q q') ≡ byte_at b at - row = omega (arith, part_length b q q' (omega arith)) in
          let d : part_of r place end ≡ part_of b place end =
          ap (λ v. part_of v place end) m
          ∙ part_behind numbered q (c ∷ part_of b q q') place end (omega arith)
          ∙ part_behind (set b at (byte_at b at + 1)) (at + length w) ((byte_at b (at + length w) + 1) ∷ []) place end (omega arith)
          ∙ part_behind b at ((byte_at b at + 1) ∷ []) place end (omega arith) in
          f ∙ ap (λ (x : ℕ). sets r place (w ++ part_of r place x)) g ∙ ap (λ v. sets r place (w ++ v)) d ∙ ap (λ v. sets v place (w ++ part_of b place end)) m

-- the first
module _ (at most : ℕ) (w : List ℕ) (c : ℕ) (b r : List ℕ) (e : r ≡ sets (set b at 1) (at + 1) (counts_from word_limit 1 (length w ∷ []))) where
  pub counted_length : length r ≡ length b
  counted_length = ap length e ∙ length-sets (set b at 1) (at + 1) (counts_from word_limit 1 (length w ∷ [])) ∙ length-set b at 1

  module _ (t : List ℕ) (f : t ≡ sets (set r (at + 1 + word_limit) c) (at + 1 + word_limit + most) w) where
    pub first_length : length t ≡ length b
    first_length = ap length f ∙ length-sets (set r (at + 1 + word_limit) c) (at + 1 + word_limit + most) w ∙ length-set r (at + 1 + word_limit) c ∙ counted_length

    pub first_made : t ≡ with_first at most w c b
    unfolding with_first
    first_made =
        let i : at + 1 + word_limit ≡ commands_at at = omega arith in
        f ∙ ap (λ (x : ℕ). sets (set r x c) (x + most) w) i ∙ ap (λ v. sets (set v (commands_at at) c) (words_at at most) w) e

-- what is answered, and what the bytes are then --------------------------------------------------------------------------------------------------------------

-- r: there was a place; t: the bytes
abbrev pub Answered : ℕ → ℕ → List ℕ → ℕ → List ℕ → Bool → List ℕ → Type 0
Answered at most w c b r t = (r ≡ not (is_full most ((table at most).read b) w)) × (t ≡ cond r ((table at most).write (insert w c ((table at most).read b)) b) b)

module _ (at most : ℕ) (w : List ℕ) (c : ℕ) (b : List ℕ) where
  module _ (row place : ℕ) (there : Bool) (l : Located at most b w row place there) where
    pub known_done : there ≡ true → Answered at most w c b true (set b (at + 1 + word_limit + row) c)
    known_done h =
        let e : at + 1 + word_limit + row ≡ commands_at at + row = omega arith in
        (sym (ap not (l.known h)), ap (λ (i : ℕ). set b i c) e ∙ sym (l.known_written h c))

    pub full_done : there ≡ false → most ≤ byte_at b at → Answered at most w c b false b
    full_done h k = (sym (ap not (l.full h k)), refl)

    pub new_done : (t : List ℕ) → there ≡ false → byte_at b at < most → t ≡ with_new at most row place w c b → Answered at most w c b true t
    new_done t h k e = (sym (ap not (l.new h k)), e ∙ sym (l.new_written h k c))

  pub first_none : byte_at b at ≡ 0 → most ≡ 0 → Answered at most w c b false b
  first_none z e = (sym (ap not (first_full at most b w c z ∙ le-leb most 0 (omega arith))), refl)

  pub first_done : (t : List ℕ) → byte_at b at ≡ 0 → (most ≡ 0 → ⊥) → t ≡ with_first at most w c b → Answered at most w c b true t
  first_done t z n e = (sym (ap not (first_full at most b w c z ∙ lt-leb most 0 (omega arith))), e ∙ sym (first_written at most b w c z))

  -- no table, no word, too long a word
  refused : has_place at most w b ≡ false → (false ≡ has_place at most w b) × (b ≡ inserting at most w c b)
  unfolding inserting
  refused h = (sym h, rw h)

  pub untaken_refused : (table at most).test b ≡ false → (false ≡ has_place at most w b) × (b ≡ inserting at most w c b)
  unfolding has_place
  untaken_refused h = refused (rw (h, and-false (leb 1 (length w) && leb (length w) word_limit)))

  pub none_refused : length w ≡ 0 → (false ≡ has_place at most w b) × (b ≡ inserting at most w c b)
  unfolding has_place
  none_refused h = refused (rw (lt-leb 1 (length w) (omega arith)))

  pub long_refused : word_limit < length w → (false ≡ has_place at most w b) × (b ≡ inserting at most w c b)
  unfolding has_place
  long_refused h = refused (rw (le-leb 1 (length w) (omega arith), lt-leb (length w) word_limit h))

  module _ (one : (length w ≡ 0 → ⊥)) (short : length w ≤ word_limit) where
    tested_at : (q : Bool) → (table at most).test b ≡ q → has_place at most w b ≡ (q && not (is_full most ((table at most).read b) w))
    unfolding has_place
    tested_at q h = rw (le-leb 1 (length w) (omega arith), le-leb (length w) word_limit short, h)

    pub answered : (table at most).test b ≡ true → (r : Bool) (t : List ℕ) → Answered at most w c b r t → (r ≡ has_place at most w b) × (t ≡ inserting at most w c b)
    unfolding inserting
    answered h r t a =
        let e : r ≡ has_place at most w b = a.0 ∙ sym (tested_at true h) in
        (e, a.1 ∙ ap (λ q. cond q ((table at most).write (insert w c ((table at most).read b)) b) b) e)
