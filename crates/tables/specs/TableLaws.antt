-- A table is a lawful field.
-- Assumes nothing.
use Rattle.std.specs.Prelude.{◌≡◌, ℕ, ◌+◌, ◌*◌, ◌≤◌, Bool, true, false, cond, ◌&&◌, leb, List, [], ◌∷◌, length, ◌==◌, nat_eq, nat_le, nat_lt}
use Rattle.std.proofs.Math.Path.{refl, sym, ap}
use Rattle.std.proofs.Common.{◌∙◌, arith}
use Rattle.words.specs.Words.{Row}
use Rattle.fields.specs.BoolLaws.{and_both, and_of}
use Rattle.fields.specs.Field.{SameIn, Lawful, then_field, both, guarded, formed_as, only, byte_field, bytes_field}
use Rattle.fields.specs.FieldLaws.{then_lawful, both_lawful, guarded_lawful, formed_lawful, only_lawful}
use Rattle.fields.specs.BasicLaws.{byte_lawful, bytes_lawful}
use borrow.Author.Tests.{eqb-true, leb-true, ltb-true, eq-eqb, ne_eqb, le-leb}
use Rattle.limits.specs.Limits.{word_limit, last_command}
use Rattle.scan.specs.Bytes.{is_word}
use Rattle.scan.specs.Number.{number_of}
use Rattle.scan.specs.Scan.{byte_at, run_at}
use Rattle.tables.specs.Table.{is_after, is_name, good_row, good_rows, good_table, lengths_of, commands_of, words_of, counts_from, lengths_from, sum, cut, Parts, parts_of, rows_in, counted, commands_at, words_at, table_end, parts_field, framed, table}
use Rattle.tables.specs.PartsLaws.{empty, cut_length, cut_lengths, cut_commands, cut_words, cut_again, lengths_length, commands_length, words_length, from_length, counts_again, ascends, asc_of, lengths_again, counts_length, sum_most}

-- a good table's lengths ascend from 1 to 24 ---------------------------------------------------------------------------------------------------------

after_length : (v w : List ℕ) → is_after v w ≡ true → length v ≤ length w
unfolding is_after
after_length v w h = go (nat_lt (length v) (length w)) refl
  where
    go : (q : Bool) → nat_lt (length v) (length w) ≡ q → length v ≤ length w
    go true e = omega (arith, ltb-true (length v) (length w) e)
    go false e =
        let k : nat_eq (length v) (length w) && nat_lt (number_of v) (number_of w) ≡ true = rw e at h in
        omega (arith, eqb-true (length v) (length w) (and_both (length v == length w) (nat_lt (number_of v) (number_of w)) k).0)

rows_ascend : (v : List ℕ) (rs : List Row) → good_rows v rs ≡ true → ascends (length v) 25 (lengths_of rs) ≡ true
unfolding good_rows good_row is_name lengths_of ascends
rows_ascend v [] h = refl
rows_ascend v (r ∷ rs) h =
    let w = r.word in
    let p = and_both (is_after v w && (nat_le 1 (length w) && nat_le (length w) word_limit && run_at is_word w 0 == length w) && nat_le r.command last_command) (good_rows w rs) h in
    let q = and_both (is_after v w && (nat_le 1 (length w) && nat_le (length w) word_limit && run_at is_word w 0 == length w)) (nat_le r.command last_command) p.0 in
    let a = and_both (is_after v w) (nat_le 1 (length w) && nat_le (length w) word_limit && run_at is_word w 0 == length w) q.0 in
    let n = and_both (nat_le 1 (length w) && nat_le (length w) word_limit) (run_at is_word w 0 == length w) a.1 in
    let m = and_both (nat_le 1 (length w)) (nat_le (length w) word_limit) n.0 in
    asc_of (length v) 25 (length w) (lengths_of rs) (after_length v w a.0) (omega (arith, leb-true (length w) word_limit m.1)) (rows_ascend w rs p.1)

-- the first word has a byte
one_ascend : (rs : List Row) → good_rows [] rs ≡ true → ascends 1 25 (lengths_of rs) ≡ true
unfolding good_rows good_row is_name lengths_of ascends
one_ascend [] h = refl
one_ascend (r ∷ rs) h =
    let w = r.word in
    let p = and_both (is_after [] w && (nat_le 1 (length w) && nat_le (length w) word_limit && run_at is_word w 0 == length w) && nat_le r.command last_command) (good_rows w rs) h in
    let q = and_both (is_after [] w && (nat_le 1 (length w) && nat_le (length w) word_limit && run_at is_word w 0 == length w)) (nat_le r.command last_command) p.0 in
    let a = and_both (is_after [] w) (nat_le 1 (length w) && nat_le (length w) word_limit && run_at is_word w 0 == length w) q.0 in
    let n = and_both (nat_le 1 (length w) && nat_le (length w) word_limit) (run_at is_word w 0 == length w) a.1 in
    let m = and_both (nat_le 1 (length w)) (nat_le (length w) word_limit) n.0 in
    asc_of 1 25 (length w) (lengths_of rs) (leb-true 1 (length w) m.0) (omega (arith, leb-true (length w) word_limit m.1)) (rows_ascend w rs p.1)

-- counts, none where there are no words --------------------------------------------------------------------------------------------------------------

counts_are : (n : ℕ) (cs : List ℕ) → length cs ≡ cond (n == 0) 0 24 → cond (n == 0) [] (counts_from 24 1 (lengths_from 1 cs)) ≡ cs
counts_are n cs h = go (n == 0) h
  where
    go : (q : Bool) → length cs ≡ cond q 0 24 → cond q [] (counts_from 24 1 (lengths_from 1 cs)) ≡ cs
    go true h = empty cs h
    go false h = ap (λ (k : ℕ). counts_from k 1 (lengths_from 1 cs)) (sym h) ∙ counts_again 1 cs

counts_fit : (n : ℕ) → nat_le (cond (n == 0) 0 24) 24 ≡ true
counts_fit n = go (n == 0)
  where
    go : (q : Bool) → nat_le (cond q 0 24) 24 ≡ true
    go true = refl
    go false = refl

counts_long : (n : ℕ) (ls : List ℕ) → length (cond (n == 0) [] (counts_from 24 1 ls)) ≡ cond (n == 0) 0 24
counts_long n ls = go (n == 0)
  where
    go : (q : Bool) → length (cond q [] (counts_from 24 1 ls)) ≡ cond q 0 24
    go true = refl
    go false = counts_length 24 1 ls

counts_lengths : (rs : List Row) → ascends 1 25 (lengths_of rs) ≡ true → lengths_from 1 (cond (length rs == 0) [] (counts_from 24 1 (lengths_of rs))) ≡ lengths_of rs
unfolding lengths_from lengths_of
counts_lengths [] h = refl
counts_lengths (r ∷ rs) h =
    let z : nat_eq (length (r ∷ rs)) 0 ≡ false = ne_eqb (length (r ∷ rs)) 0 (λ e. omega arith) in
    ap (λ q. lengths_from 1 (cond q [] (counts_from 24 1 (lengths_of (r ∷ rs))))) z ∙ lengths_again 24 1 (lengths_of (r ∷ rs)) h

sum_rows : (rs : List Row) → ascends 1 25 (lengths_of rs) ≡ true → sum (lengths_of rs) ≤ 24 * length rs
sum_rows rs h = omega (arith, sum_most 1 24 (lengths_of rs) h, lengths_length rs)

module _ (at most : ℕ) where
  -- the parts -----------------------------------------------------------------------------------------------------------------------------------------

  words_lawful : (n : ℕ) (cs : List ℕ) → Lawful (both (bytes_field (commands_at at) most n) (bytes_field (words_at at most) (word_limit * most) (sum (lengths_from 1 cs))))
  unfolding bytes_field
  words_lawful n cs =
      both_lawful (bytes_field (commands_at at) most n) (bytes_field (words_at at most) (word_limit * most) (sum (lengths_from 1 cs))) (bytes_lawful (commands_at at) most n)
      (bytes_lawful (words_at at most) (word_limit * most) (sum (lengths_from 1 cs))) (omega arith)

  parts_lawful : Lawful (parts_field at most)
  unfolding parts_field byte_field bytes_field then_field
  parts_lawful =
      then_lawful (byte_field at) _ (table_end at most) (byte_lawful at)
      (λ n. then_lawful (bytes_field (at + 1) word_limit (cond (n == 0) 0 word_limit)) _ (table_end at most) (bytes_lawful (at + 1) word_limit (cond (n == 0) 0 word_limit))
      (λ cs. words_lawful n cs) (λ cs. omega arith) (λ cs. omega arith) (omega arith))
      (λ n. omega arith) (λ n. omega arith) (omega arith)

  -- parts and rows are the same values ------------------------------------------------------------------------------------------------------------------

  abbrev rule : Parts → Bool
  rule x = counted most x && good_rows [] (rows_in x)

  -- parts that hold together are those of their rows
  parts_again : (x : Parts) → (parts_field at most).ok x ≡ true → counted most x ≡ true → parts_of (rows_in x) ≡ x
  unfolding parts_field then_field byte_field bytes_field counted parts_of rows_in
  parts_again x h k =
      let n = x.0 in
      let cs = x.1.0 in
      let os = x.1.1.0 in
      let ws = x.1.1.1 in
      let c : ℕ = cond (n == 0) 0 word_limit in
      let ls = lengths_from 1 cs in
      let t = sum ls in
      let kw = nat_le t (word_limit * most) && nat_eq (length ws) t in
      let ko = nat_le n most && nat_eq (length os) n in
      let kc = nat_le c word_limit && nat_eq (length cs) c in
      let q = and_both (nat_le n 255) (kc && (ko && kw)) h in
      let r = and_both kc (ko && kw) q.1 in
      let s = and_both ko kw r.1 in
      let ec : length cs ≡ c = eqb-true (length cs) c (and_both (nat_le c word_limit) (length cs == c) r.0).1 in
      let eo : length os ≡ n = eqb-true (length os) n (and_both (nat_le n most) (length os == n) s.0).1 in
      let ew : length ws ≡ t = eqb-true (length ws) t (and_both (nat_le t (word_limit * most)) (length ws == t) s.1).1 in
      let es : sum cs ≡ n = eqb-true (sum cs) n (and_both (nat_le n most) (sum cs == n) k).1 in
      let rs = cut ls os ws in
      let el : length ls ≡ n = from_length 1 cs ∙ es in
      let e0 : length rs ≡ n = cut_length ls os ws ∙ el in
      let e1 : cond (length rs == 0) [] (counts_from word_limit 1 (lengths_of rs)) ≡ cs =
      ap (λ (k : ℕ). cond (k == 0) [] (counts_from word_limit 1 (lengths_of rs))) e0
      ∙ ap (λ v. cond (n == 0) [] (counts_from word_limit 1 v)) (cut_lengths ls os ws (omega (arith, ew)))
      ∙ counts_are n cs ec in
      let e2 : commands_of rs ≡ os = cut_commands ls os ws (el ∙ sym eo) in
      let e3 : words_of rs ≡ ws = cut_words ls os ws (sym ew) in
      λ i. (e0 i, (e1 i, (e2 i, e3 i)))

  -- and there are as many
  parts_count : (x : Parts) → counted most x ≡ true → length (rows_in x) ≡ x.0
  unfolding counted rows_in
  parts_count x k =
      cut_length (lengths_from 1 x.1.0) x.1.1.0 x.1.1.1 ∙ from_length 1 x.1.0 ∙ eqb-true (sum x.1.0) x.0 (and_both (nat_le x.0 most) (sum x.1.0 == x.0) k).1

  parts_few : (x : Parts) → counted most x ≡ true → nat_le x.0 most ≡ true
  unfolding counted
  parts_few x k = (and_both (nat_le x.0 most) (sum x.1.0 == x.0) k).0

  from_parts : (x : Parts) → (guarded (parts_field at most) rule).ok x ≡ true → (parts_of (rows_in x) ≡ x) × (good_table most (rows_in x) ≡ true)
  unfolding guarded good_table
  from_parts x h =
      let p = and_both ((parts_field at most).ok x) (rule x) h in
      let q = and_both (counted most x) (good_rows [] (rows_in x)) p.1 in
      (parts_again x p.0 q.0, and_of q.1 (ap (λ (n : ℕ). leb n most) (parts_count x q.0) ∙ parts_few x q.0))

  -- the frame is looked at where the table lies, and what is taken is framed
  frame_looks : (a b : List ℕ) → length a ≡ length b → SameIn (parts_field at most).from (parts_field at most).to a b → framed at most a ≡ framed at most b
  unfolding framed
  frame_looks a b e s =
      ap (λ (n : ℕ). nat_le (table_end at most) n && counted most ((parts_field at most).read a)) e
      ∙ ap (λ x. nat_le (table_end at most) (length b) && counted most x) (parts_lawful.looks a b e s).1

  parts_to : (parts_field at most).to ≡ table_end at most
  unfolding parts_field then_field
  parts_to = refl

  frame_passed : (b : List ℕ) → (parts_field at most).to ≤ length b → (parts_field at most).test b && rule ((parts_field at most).read b) ≡ true → framed at most b ≡ true
  unfolding framed
  frame_passed b z t =
      let r = (and_both ((parts_field at most).test b) (rule ((parts_field at most).read b)) t).1 in
      and_of (le-leb (table_end at most) (length b) (omega (arith, z, parts_to)))
      (and_both (counted most ((parts_field at most).read b)) (good_rows [] (rows_in ((parts_field at most).read b))) r).0

  module _ (small : most ≤ 255) where
    from_rows : (rs : List Row) → good_table most rs ≡ true → (rows_in (parts_of rs) ≡ rs) × ((guarded (parts_field at most) rule).ok (parts_of rs) ≡ true)
    unfolding guarded parts_field then_field byte_field bytes_field counted parts_of rows_in good_table
    from_rows rs h =
        let d = and_both (good_rows [] rs) (nat_le (length rs) most) h in
        let n = length rs in
        let ls = lengths_of rs in
        let cs = cond (n == 0) [] (counts_from word_limit 1 ls) in
        let up = one_ascend rs d.0 in
        let el : lengths_from 1 cs ≡ ls = counts_lengths rs up in
        let e : cut (lengths_from 1 cs) (commands_of rs) (words_of rs) ≡ rs = ap (λ v. cut v (commands_of rs) (words_of rs)) el ∙ cut_again rs in
        let k = leb-true n most d.1 in
        let kn = le-leb n 255 (omega arith) in
        let kc = and_of (counts_fit n) (eq-eqb (length cs) (cond (n == 0) 0 word_limit) (counts_long n ls)) in
        let ko = and_of d.1 (eq-eqb (length (commands_of rs)) n (commands_length rs)) in
        let sl : sum (lengths_from 1 cs) ≡ sum ls = ap sum el in
        let sm : sum ls ≤ 24 * n = sum_rows rs up in
        let kt = le-leb (sum (lengths_from 1 cs)) (word_limit * most) (omega (arith, sl, sm, k)) in
        let kw = and_of kt (eq-eqb (length (words_of rs)) (sum (lengths_from 1 cs)) (words_length rs ∙ sym sl)) in
        let es = eq-eqb (sum cs) n (sym (from_length 1 cs) ∙ ap length el ∙ lengths_length rs) in
        let kg : good_rows [] (cut (lengths_from 1 cs) (commands_of rs) (words_of rs)) ≡ true = ap (good_rows []) e ∙ d.0 in
        (e, and_of (and_of kn (and_of kc (and_of ko kw))) (and_of (and_of d.1 es) kg))

    -- a table is lawful
    pub table_lawful : Lawful (table at most)
    unfolding table guarded formed_as
    table_lawful =
        only_lawful (formed_as (guarded (parts_field at most) rule) rows_in parts_of (good_table most))
        (formed_lawful (guarded (parts_field at most) rule) (guarded_lawful (parts_field at most) parts_lawful rule) rows_in parts_of (good_table most) from_parts from_rows)
        (framed at most) [] frame_looks frame_passed

  -- where it lies
  pub table_from : (table at most).from ≡ at
  unfolding table only formed_as guarded parts_field then_field byte_field
  table_from = refl

  pub table_to : (table at most).to ≡ table_end at most
  unfolding table only formed_as guarded parts_field then_field
  table_to = refl

  -- which rows it may have
  pub table_ok : (rs : List Row) → (table at most).ok rs ≡ good_table most rs
  unfolding table only formed_as
  table_ok rs = refl

  first_byte : (b : List ℕ) → ((parts_field at most).read b).0 ≡ byte_at b at
  unfolding parts_field then_field byte_field
  first_byte b = refl

  -- what is taken is framed, and its rows are good
  pub table_framed : (b : List ℕ) → (table at most).test b ≡ true → framed at most b ≡ true
  unfolding table only
  table_framed b h = (and_both (framed at most b) ((formed_as (guarded (parts_field at most) rule) rows_in parts_of (good_table most)).test b) h).0

  pub table_good : (b : List ℕ) → (table at most).test b ≡ true → good_table most ((table at most).read b) ≡ true
  unfolding table only formed_as guarded good_table
  table_good b h =
      let x = (parts_field at most).read b in
      let p = and_both (framed at most b) ((parts_field at most).test b && rule x) h in
      let q = and_both (counted most x) (good_rows [] (rows_in x)) (and_both ((parts_field at most).test b) (rule x) p.1).1 in
      rw p.0 (and_of q.1 (ap (λ (n : ℕ). leb n most) (parts_count x q.0) ∙ parts_few x q.0))

  -- as many as the first byte says
  pub table_count : (b : List ℕ) → (table at most).test b ≡ true → length ((table at most).read b) ≡ byte_at b at
  unfolding table only formed_as guarded
  table_count b h =
      let x = (parts_field at most).read b in
      let p = and_both (framed at most b) ((parts_field at most).test b && rule x) h in
      rw p.0 (parts_count x (and_both (counted most x) (good_rows [] (rows_in x)) (and_both ((parts_field at most).test b) (rule x) p.1).1).0 ∙ first_byte b)

  pub table_rows : (b : List ℕ) → (table at most).test b ≡ true → good_rows [] ((table at most).read b) ≡ true
  unfolding good_table
  table_rows b h = let rs = (table at most).read b in (and_both (good_rows [] rs) (nat_le (length rs) most) (table_good b h)).0
