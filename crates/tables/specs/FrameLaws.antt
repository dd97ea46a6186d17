-- Laws of the frame of a table: what it says of the counts, and what is then read, taken and written, in the places of the bytes.
-- Assumes nothing.
use Rattle.std.specs.Prelude.{◌≡◌, ℕ, suc, ◌+◌, ◌-◌, ◌*◌, ◌<◌, ◌≤◌, Bool, true, false, cond, ◌&&◌, leb, List, [], ◌∷◌, ◌++◌, length, take, drop, ◌==◌, nat_le}
use Rattle.std.proofs.Math.Path.{refl, sym, ap}
use Rattle.std.proofs.Common.{◌∙◌, take-append-drop, take-suc, get_or-drop}
use native.Mathlib.Omega.{arith}
use Rattle.std.proofs.Math.ListN.{length-drop}
use Rattle.std.proofs.lemmas.List.Edits.{sets}
use Rattle.std.proofs.Math.Seq.{length-take-le}
use borrow.Author.Tests.{eqb-true, eqb-false, leb-true, eq-eqb, ne_eqb, le-leb}
use Rattle.limits.specs.Limits.{word_limit}
use Rattle.scan.specs.Scan.{byte_at, part_of}
use Rattle.scan.specs.PartLaws.{part_none, part_length}
use Rattle.scan.specs.RunLaws.{drop_step}
use Rattle.words.specs.Words.{Row}
use Rattle.fields.specs.BoolLaws.{and_both, and_of, both_ways}
use Rattle.fields.specs.Field.{then_field, guarded, formed_as, only, byte_field, bytes_field, fit}
use Rattle.fields.specs.BasicLaws.{fit_is}
use Rattle.tables.specs.Table.{good_rows, lengths_of, commands_of, words_of, counts_from, repeated, lengths_from, sum, cut, Parts, parts_of, rows_in, counted, commands_at, words_at, table_end, parts_field, framed, table}
use Rattle.tables.specs.PartsLaws.{cut_append, from_length, from_most, sum_append, sum_repeated}
use Rattle.tables.specs.Walk.{lengths_at}

-- the lengths, one count after the other -----------------------------------------------------------------------------------------------------------

module _ (b : List ℕ) (at m : ℕ) where
  pub lengths_step : m ≤ word_limit → commands_at at ≤ length b → lengths_at b at m ≡ repeated (byte_at b (at + m)) m ++ lengths_at b at (m + 1)
  unfolding lengths_from
  lengths_step h k =
      let e : commands_at at - (at + m) ≡ suc (commands_at at - (at + (m + 1))) = omega arith in
      let q : at + m + 1 ≡ at + (m + 1) = omega arith in
      let s : m + 1 ≡ suc m = omega arith in
      ap (λ (n : ℕ). lengths_from m (take n (drop (at + m) b))) e
      ∙ ap (λ v. lengths_from m (take (suc (commands_at at - (at + (m + 1)))) v)) (drop_step b (at + m) (omega arith))
      ∙ ap (λ (j : ℕ). repeated (byte_at b (at + m)) m ++ lengths_from (suc m) (take (commands_at at - (at + (m + 1))) (drop j b))) q
      ∙ ap (λ (j : ℕ). repeated (byte_at b (at + m)) m ++ lengths_from j (part_of b (at + (m + 1)) (commands_at at))) (sym s)

  pub lengths_end : word_limit < m → lengths_at b at m ≡ []
  unfolding lengths_from
  lengths_end h = ap (lengths_from m) (part_none b (at + m) (commands_at at) (omega arith))

-- one count more: how many words, and of how many bytes
from_snoc : (m c : ℕ) (cs : List ℕ) → sum (lengths_from m (cs ++ c ∷ [])) ≡ sum (lengths_from m cs) + c * (m + length cs)
unfolding lengths_from sum
from_snoc m c [] =
    let e : m + 0 ≡ m = omega arith in
    sum_append (repeated c m) [] ∙ omega (arith, sum_repeated c m, ap (λ (k : ℕ). c * k) e)
from_snoc m c (x ∷ cs) =
    let e : suc m + length cs ≡ m + suc (length cs) = omega arith in
    sum_append (repeated x m) (lengths_from (suc m) (cs ++ c ∷ []))
    ∙ omega (arith, from_snoc (suc m) c cs, sum_append (repeated x m) (lengths_from (suc m) cs), ap (λ (k : ℕ). c * k) e)

module _ (b : List ℕ) (at m : ℕ) (l : 1 ≤ m) (h : at + m < length b) where
  part_next : part_of b (at + 1) (at + (m + 1)) ≡ part_of b (at + 1) (at + m) ++ (byte_at b (at + m) ∷ [])
  part_next =
      let j : at + (m + 1) - (at + 1) ≡ suc (at + m - (at + 1)) = omega arith in
      let i : at + 1 + (at + m - (at + 1)) ≡ at + m = omega arith in
      ap (λ (n : ℕ). take n (drop (at + 1) b)) j
      ∙ take-suc (drop (at + 1) b) (at + m - (at + 1)) 0 (omega (arith, length-drop (at + 1) b))
      ∙ ap (λ (x : ℕ). part_of b (at + 1) (at + m) ++ (x ∷ [])) (get_or-drop (at + 1) b (at + m - (at + 1)) 0 ∙ ap (byte_at b) i)

  pub sum_next : sum (part_of b (at + 1) (at + (m + 1))) ≡ sum (part_of b (at + 1) (at + m)) + byte_at b (at + m)
  unfolding sum
  sum_next = ap sum part_next ∙ sum_append (part_of b (at + 1) (at + m)) (byte_at b (at + m) ∷ []) ∙ omega arith

  pub bytes_next : sum (lengths_from 1 (part_of b (at + 1) (at + (m + 1)))) ≡ sum (lengths_from 1 (part_of b (at + 1) (at + m))) + byte_at b (at + m) * m
  bytes_next =
      let e : 1 + length (part_of b (at + 1) (at + m)) ≡ m = omega (arith, part_length b (at + 1) (at + m) (omega arith)) in
      ap (λ v. sum (lengths_from 1 v)) part_next ∙ from_snoc 1 (byte_at b (at + m)) (part_of b (at + 1) (at + m))
      ∙ ap (λ (k : ℕ). sum (lengths_from 1 (part_of b (at + 1) (at + m))) + byte_at b (at + m) * k) e

-- none before the first
pub sum_first : (b : List ℕ) (at : ℕ) → sum (part_of b (at + 1) (at + 1)) ≡ 0
unfolding sum
sum_first b at = ap sum (part_none b (at + 1) (at + 1) (omega arith))

pub bytes_first : (b : List ℕ) (at : ℕ) → sum (lengths_from 1 (part_of b (at + 1) (at + 1))) ≡ 0
unfolding sum lengths_from
bytes_first b at = ap (λ v. sum (lengths_from 1 v)) (part_none b (at + 1) (at + 1) (omega arith))

-- the frame ------------------------------------------------------------------------------------------------------------------------------------------

-- all bytes are there, there is room, and there are as many words as the counts say
pub record Framed (at most : ℕ) (b : List ℕ) : Type 0 where
  pub size : table_end at most ≤ length b
  pub few : byte_at b at ≤ most
  pub total : 0 < byte_at b at → sum (part_of b (at + 1) (commands_at at)) ≡ byte_at b at

module _ (at most : ℕ) (b : List ℕ) where
  abbrev read_parts : Parts
  read_parts = (parts_field at most).read b

  parts_number : read_parts.0 ≡ byte_at b at
  unfolding parts_field then_field byte_field
  parts_number = refl

  -- the counts that are read: none, or all 24
  counts_none : byte_at b at ≡ 0 → read_parts.1.0 ≡ []
  unfolding parts_field then_field byte_field bytes_field fit
  counts_none h = rw (eq-eqb (byte_at b at) 0 h) (part_none b (at + 1) (at + 1 + 0) (omega arith))

  parts_words : read_parts.1.1.1 ≡ part_of b (words_at at most) (words_at at most + fit (sum (lengths_from 1 read_parts.1.0)) (word_limit * most))
  unfolding parts_field then_field byte_field bytes_field
  parts_words = refl

  counts_all : 0 < byte_at b at → read_parts.1.0 ≡ part_of b (at + 1) (commands_at at)
  unfolding parts_field then_field byte_field bytes_field fit
  counts_all h =
      let e : at + 1 + word_limit ≡ commands_at at = omega arith in
      rw (ne_eqb (byte_at b at) 0 (λ q. omega arith)) (ap (part_of b (at + 1)) e)

  pub framed_told : framed at most b ≡ true → Framed at most b
  unfolding framed counted
  framed_told h =
      let p = and_both (nat_le (table_end at most) (length b)) (nat_le read_parts.0 most && sum read_parts.1.0 == read_parts.0) h in
      let q = and_both (nat_le read_parts.0 most) (sum read_parts.1.0 == read_parts.0) p.1 in
      record {
        size = leb-true (table_end at most) (length b) p.0;
        few = leb-true (byte_at b at) most (ap (λ (n : ℕ). leb n most) (sym parts_number) ∙ q.0);
        total = λ k. ap sum (sym (counts_all k)) ∙ eqb-true (sum read_parts.1.0) read_parts.0 q.1 ∙ parts_number;
      }

  pub framed_is : Framed at most b → framed at most b ≡ true
  unfolding framed counted sum
  framed_is f =
      let n = byte_at b at in
      and_of (le-leb (table_end at most) (length b) f.size)
      (and_of (ap (λ (k : ℕ). leb k most) parts_number ∙ le-leb n most f.few) (eq-eqb (sum read_parts.1.0) read_parts.0 (go (n == 0) refl ∙ sym parts_number)))
    where
      go : (t : Bool) → (byte_at b at == 0) ≡ t → sum read_parts.1.0 ≡ byte_at b at
      go true e = let z = eqb-true (byte_at b at) 0 e in ap sum (counts_none z) ∙ sym z
      go false e = let k : 0 < byte_at b at = omega (arith, eqb-false (byte_at b at) 0 e) in ap sum (counts_all k) ∙ f.total k

  -- as the code tells it
  pub framed_not : (Framed at most b → ⊥) → framed at most b ≡ false
  framed_not h = go (framed at most b) refl
    where
      go : (t : Bool) → framed at most b ≡ t → framed at most b ≡ false
      go true e = absurd (h (framed_told e))
      go false e = e

  pub framed_sum : table_end at most ≤ length b → byte_at b at ≤ most → 0 < byte_at b at → framed at most b ≡ (sum (part_of b (at + 1) (commands_at at)) == byte_at b at)
  framed_sum z h k =
      both_ways (framed at most b) (sum (part_of b (at + 1) (commands_at at)) == byte_at b at) (λ e. eq-eqb _ (byte_at b at) ((framed_told e).total k))
      (λ e. framed_is (record { size = z; few = h; total = λ k. eqb-true _ (byte_at b at) e }))

  -- the counts have their place, and so have the words
  counts_fit : leb (cond (byte_at b at == 0) 0 word_limit) word_limit ≡ true
  counts_fit = go (byte_at b at == 0)
    where
      go : (t : Bool) → nat_le (cond t 0 word_limit) word_limit ≡ true
      go true = refl
      go false = refl

  -- how many words there are, and of how many bytes
  module _ (f : Framed at most b) (k : 0 < byte_at b at) where
    pub lengths_count : length (lengths_at b at 1) ≡ byte_at b at
    lengths_count = from_length 1 (part_of b (at + 1) (commands_at at)) ∙ f.total k

    pub lengths_sum : sum (lengths_at b at 1) ≤ word_limit * byte_at b at
    lengths_sum =
        let l = part_length b (at + 1) (commands_at at) (omega (arith, f.size)) in
        omega (arith, from_most word_limit 1 (part_of b (at + 1) (commands_at at)) (omega (arith, l)), f.total k)

    pub lengths_fit : words_at at most + sum (lengths_at b at 1) ≤ length b
    lengths_fit = omega (arith, lengths_sum, f.size, f.few)

    -- the commands and the words that are read
    commands_read : read_parts.1.1.0 ≡ take (byte_at b at) (drop (commands_at at) b)
    unfolding parts_field then_field byte_field bytes_field fit
    commands_read =
        let e : commands_at at + byte_at b at - commands_at at ≡ byte_at b at = omega arith in
        rw (le-leb (byte_at b at) most f.few) (ap (λ (j : ℕ). take j (drop (commands_at at) b)) e)

    words_read : read_parts.1.1.1 ≡ take (sum (lengths_at b at 1)) (drop (words_at at most) b)
    words_read =
        let t = sum (lengths_at b at 1) in
        let e : words_at at most + t - words_at at most ≡ t = omega arith in
        parts_words
        ∙ ap (λ v. part_of b (words_at at most) (words_at at most + fit (sum (lengths_from 1 v)) (word_limit * most))) (counts_all k)
        ∙ ap (λ (j : ℕ). part_of b (words_at at most) (words_at at most + j)) (fit_is t (word_limit * most) (le-leb t (word_limit * most) (omega (arith, lengths_sum, f.few))))
        ∙ ap (λ (j : ℕ). take j (drop (words_at at most) b)) e

    -- the rows that are read
    parts_rows : rows_in read_parts ≡ cut (lengths_at b at 1) (drop (commands_at at) b) (drop (words_at at most) b)
    unfolding rows_in
    parts_rows =
        let n = byte_at b at in
        let ls = lengths_at b at 1 in
        let t = sum ls in
        let os = take n (drop (commands_at at) b) in
        let ws = take t (drop (words_at at most) b) in
        let lo : length os ≡ n = length-take-le n (drop (commands_at at) b) (omega (arith, length-drop (commands_at at) b, f.size, f.few)) in
        let lw : length ws ≡ t = length-take-le t (drop (words_at at most) b) (omega (arith, length-drop (words_at at most) b, f.size, f.few, lengths_sum)) in
        ap (λ v. cut (lengths_from 1 v) read_parts.1.1.0 read_parts.1.1.1) (counts_all k)
        ∙ ap (λ v. cut ls v read_parts.1.1.1) commands_read
        ∙ ap (λ v. cut ls os v) words_read
        ∙ sym (cut_append ls os (drop n (drop (commands_at at) b)) ws (drop t (drop (words_at at most) b)) (omega (arith, lo, lengths_count)) (omega (arith, lw)))
        ∙ ap (λ v. cut ls v (ws ++ drop t (drop (words_at at most) b))) (take-append-drop n (drop (commands_at at) b))
        ∙ ap (λ v. cut ls (drop (commands_at at) b) v) (take-append-drop t (drop (words_at at most) b))

  words_fit : Framed at most b → sum (lengths_from 1 read_parts.1.0) ≤ word_limit * most
  unfolding lengths_from sum
  words_fit f = go (byte_at b at == 0) refl
    where
      go : (t : Bool) → (byte_at b at == 0) ≡ t → sum (lengths_from 1 read_parts.1.0) ≤ word_limit * most
      go true e = let z = ap (λ v. sum (lengths_from 1 v)) (counts_none (eqb-true (byte_at b at) 0 e)) in omega (arith, z)
      go false e =
          let k : 0 < byte_at b at = omega (arith, eqb-false (byte_at b at) 0 e) in
          let z = ap (λ v. sum (lengths_from 1 v)) (counts_all k) in
          omega (arith, z, lengths_sum f k, f.few)

  -- what is read ---------------------------------------------------------------------------------------------------------------------------------------

  pub rows_unframed : framed at most b ≡ false → (table at most).read b ≡ []
  unfolding table only
  rows_unframed h = rw h

  pub rows_empty : byte_at b at ≡ 0 → (table at most).read b ≡ []
  unfolding table only formed_as guarded rows_in cut lengths_from
  rows_empty h = go (framed at most b)
    where
      go : (t : Bool) → cond t (cut (lengths_from 1 read_parts.1.0) read_parts.1.1.0 read_parts.1.1.1) [] ≡ []
      go true = ap (λ v. cut (lengths_from 1 v) read_parts.1.1.0 read_parts.1.1.1) (counts_none h)
      go false = refl

  pub rows_are : framed at most b ≡ true → 0 < byte_at b at → (table at most).read b ≡ cut (lengths_at b at 1) (drop (commands_at at) b) (drop (words_at at most) b)
  unfolding table only formed_as guarded
  rows_are h k = rw h (parts_rows (framed_told h) k)

  -- what is taken --------------------------------------------------------------------------------------------------------------------------------------

  pub test_unframed : framed at most b ≡ false → (table at most).test b ≡ false
  unfolding table only
  test_unframed h = rw h

  -- the parts are
  parts_taken : framed at most b ≡ true → (parts_field at most).test b ≡ true
  unfolding parts_field then_field byte_field bytes_field
  parts_taken h =
      let f = framed_told h in
      and_of counts_fit (and_of (le-leb (byte_at b at) most f.few) (le-leb _ (word_limit * most) (words_fit f)))

  table_test : framed at most b ≡ true → (table at most).test b ≡ good_rows [] (rows_in read_parts)
  unfolding table only formed_as guarded framed
  table_test h = rw (h, parts_taken h, (and_both (nat_le (table_end at most) (length b)) (counted most read_parts) h).1)

  pub test_empty : framed at most b ≡ true → byte_at b at ≡ 0 → (table at most).test b ≡ true
  unfolding rows_in cut lengths_from good_rows
  test_empty h k = table_test h ∙ ap (λ v. good_rows [] (cut (lengths_from 1 v) read_parts.1.1.0 read_parts.1.1.1)) (counts_none k)

  pub test_are : framed at most b ≡ true → 0 < byte_at b at → (table at most).test b ≡ good_rows [] (cut (lengths_at b at 1) (drop (commands_at at) b) (drop (words_at at most) b))
  test_are h k = table_test h ∙ ap (good_rows []) (parts_rows (framed_told h) k)

  -- what is written ------------------------------------------------------------------------------------------------------------------------------------

  pub write_is : (rs : List Row) → (table at most).write rs b ≡
      sets (sets (sets (sets b at (length rs ∷ [])) (at + 1) (cond (length rs == 0) [] (counts_from word_limit 1 (lengths_of rs)))) (commands_at at) (commands_of rs)) (words_at at most) (words_of rs)
  unfolding table only formed_as guarded parts_field then_field byte_field bytes_field parts_of
  write_is rs = refl
