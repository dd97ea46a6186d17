-- Rows that stand in the bytes of a table: their number, counts, commands and words, each in its place; and what is written where one of them
-- gets another command, or one more is put between them.
-- Assumes nothing.
use Rattle.std.specs.Prelude.{◌≡◌, refl, Bool, cond, true, false, List, [], ◌∷◌, ◌++◌, ℕ, zero, suc, ◌+◌, ◌-◌, ◌<◌, ◌≤◌, eqb, take, drop}
use Rattle.std.proofs.Math.Path.{sym, ap}
use Rattle.std.proofs.Common.{◌∙◌, append_assoc, length-drop, take-append-drop, eqb-true, eq-eqb, ne_eqb}
use native.Mathlib.Omega.{arith}
use Rattle.std.proofs.Math.ListN.{length, set, length-append}
use Rattle.std.proofs.Math.Seq.{sets}
use Rattle.std.proofs.lemmas.List.{set-get_or}
use Rattle.std.proofs.lemmas.Bool.{eqb-false}
use Rattle.limits.specs.Limits.{word_limit}
use Rattle.scan.specs.PartLaws.{part_length}
use Rattle.scan.specs.Scan.{byte_at, part_of}
use Rattle.words.specs.Words.{Row}
use Rattle.tables.specs.Table.{lengths_of, commands_of, words_of, count_of, counts_from, sum, cut, commands_at, words_at, table_end, framed, table}
use Rattle.tables.specs.PartsLaws.{cut_length, cut_lengths, cut_commands, cut_words, cut_append, commands_length, counts_again, counts_length}
use Rattle.tables.specs.Walk.{lengths_at}
use Rattle.tables.specs.FrameLaws.{Framed, framed_told, lengths_count, rows_are, write_is, lengths_fit}
use Rattle.placing.specs.WriteLaws.{There, there_part, there_byte, there_first, there_rest, there_behind, sets_there, sets_past, sets_other}
use Rattle.placing.specs.Change.{row}

pub record Stored (at most : ℕ) (b : List ℕ) (rs : List Row) : Type 0 where
  pub size : table_end at most ≤ length b
  pub number : byte_at b at ≡ length rs
  pub few : length rs ≤ most
  pub counts : There b (at + 1) (counts_from word_limit 1 (lengths_of rs))
  pub commands : There b (commands_at at) (commands_of rs)
  pub words : There b (words_at at most) (words_of rs)

-- the rows that are read stand there
module _ (at most : ℕ) (b : List ℕ) (f : Framed at most b) (some : 0 < byte_at b at) where
  abbrev n : ℕ
  n = byte_at b at

  abbrev ls : List ℕ
  ls = lengths_at b at 1

  abbrev os : List ℕ
  os = part_of b (commands_at at) (commands_at at + n)

  abbrev ws : List ℕ
  ws = part_of b (words_at at most) (words_at at most + sum ls)

  commands_long : length os ≡ n
  commands_long = omega (arith, part_length b (commands_at at) (commands_at at + n) (omega (arith, f.size, f.few)))

  words_long : length ws ≡ sum ls
  words_long = omega (arith, part_length b (words_at at most) (words_at at most + sum ls) (lengths_fit at most b f some))

  abbrev rows : List Row
  rows = cut ls (drop (commands_at at) b) (drop (words_at at most) b)

  rows_cut : rows ≡ cut ls os ws
  rows_cut =
      let i : commands_at at + n - commands_at at ≡ n = omega arith in
      let j : words_at at most + sum ls - words_at at most ≡ sum ls = omega arith in
      let os' = take n (drop (commands_at at) b) in
      let ws' = take (sum ls) (drop (words_at at most) b) in
      let eo : os ≡ os' = ap (λ (k : ℕ). take k (drop (commands_at at) b)) i in
      let ew : ws ≡ ws' = ap (λ (k : ℕ). take k (drop (words_at at most) b)) j in
      ap (λ v. cut ls v (drop (words_at at most) b)) (sym (take-append-drop n (drop (commands_at at) b)))
      ∙ ap (λ v. cut ls (os' ++ drop n (drop (commands_at at) b)) v) (sym (take-append-drop (sum ls) (drop (words_at at most) b)))
      ∙ cut_append ls os' (drop n (drop (commands_at at) b)) ws' (drop (sum ls) (drop (words_at at most) b))
      (omega (arith, ap length eo, commands_long, lengths_count at most b f some)) (omega (arith, ap length ew, words_long))
      ∙ ap (λ v. cut ls v ws') (sym eo)
      ∙ ap (λ v. cut ls os v) (sym ew)

  cut_stored : Stored at most b rows
  cut_stored =
      let ct = part_of b (at + 1) (commands_at at) in
      let k : length ct ≡ word_limit = omega (arith, part_length b (at + 1) (commands_at at) (omega (arith, f.size))) in
      let l : lengths_of rows ≡ ls = cut_lengths ls (drop (commands_at at) b) (drop (words_at at most) b) (omega (arith, length-drop (words_at at most) b, lengths_fit at most b f some)) in
      let cl : length rows ≡ n = cut_length ls (drop (commands_at at) b) (drop (words_at at most) b) ∙ lengths_count at most b f some in
      let ec : counts_from word_limit 1 (lengths_of rows) ≡ ct = ap (counts_from word_limit 1) l ∙ ap (λ (j : ℕ). counts_from j 1 ls) (sym k) ∙ counts_again 1 ct in
      let eo : commands_of rows ≡ os = ap commands_of rows_cut ∙ cut_commands ls os ws (lengths_count at most b f some ∙ sym commands_long) in
      let ew : words_of rows ≡ ws = ap words_of rows_cut ∙ cut_words ls os ws (sym words_long) in
      record {
        size = f.size;
        number = sym cl;
        few = omega (arith, f.few, cl);
        counts = rw ec (there_part b (at + 1) (commands_at at) (omega arith) (omega (arith, f.size)));
        commands = rw eo (there_part b (commands_at at) (commands_at at + n) (omega arith) (omega (arith, f.size, f.few)));
        words = rw ew (there_part b (words_at at most) (words_at at most + sum ls) (omega arith) (lengths_fit at most b f some));
      }

  cut_words_long : length (words_of rows) ≡ sum ls
  cut_words_long = ap length (ap words_of rows_cut ∙ cut_words ls os ws (sym words_long)) ∙ words_long

pub stored : (at most : ℕ) (b : List ℕ) → framed at most b ≡ true → 0 < byte_at b at → Stored at most b ((table at most).read b)
stored at most b h k = rw (rows_are at most b h k) (cut_stored at most b (framed_told at most b h) k)

pub stored_words : (at most : ℕ) (b : List ℕ) → framed at most b ≡ true → 0 < byte_at b at → length (words_of ((table at most).read b)) ≡ sum (lengths_at b at 1)
stored_words at most b h k = ap (λ rs. length (words_of rs)) (rows_are at most b h k) ∙ cut_words_long at most b (framed_told at most b h) k

-- the parts of rows side by side ---------------------------------------------------------------------------------------------------------------------

pub lengths_append : (xs ys : List Row) → lengths_of (xs ++ ys) ≡ lengths_of xs ++ lengths_of ys
unfolding lengths_of
lengths_append [] ys = refl
lengths_append (x ∷ xs) ys = ap (λ v. length x.word ∷ v) (lengths_append xs ys)

pub commands_append : (xs ys : List Row) → commands_of (xs ++ ys) ≡ commands_of xs ++ commands_of ys
unfolding commands_of
commands_append [] ys = refl
commands_append (x ∷ xs) ys = ap (λ v. x.command ∷ v) (commands_append xs ys)

pub words_append : (xs ys : List Row) → words_of (xs ++ ys) ≡ words_of xs ++ words_of ys
unfolding words_of
words_append [] ys = refl
words_append (x ∷ xs) ys = ap (λ v. x.word ++ v) (words_append xs ys) ∙ sym (append_assoc x.word (words_of xs) (words_of ys))

-- with another command
commands_other : (xs : List Row) (r t : Row) (zs : List Row) → commands_of (xs ++ t ∷ zs) ≡ set (commands_of (xs ++ r ∷ zs)) (length xs) t.command
unfolding commands_of
commands_other [] r t zs = refl
commands_other (x ∷ xs) r t zs = ap (λ v. x.command ∷ v) (commands_other xs r t zs)

-- how many of a length, with one more
pub count_here : (l : ℕ) (u v : List ℕ) → count_of l (u ++ l ∷ v) ≡ count_of l (u ++ v) + 1
unfolding count_of
count_here l [] v = rw (eq-eqb l l refl) (omega arith)
count_here l (x ∷ u) v = omega (arith, count_here l u v)

pub count_there : (m l : ℕ) (u v : List ℕ) → (l ≡ m → ⊥) → count_of m (u ++ l ∷ v) ≡ count_of m (u ++ v)
unfolding count_of
count_there m l [] v h = rw (ne_eqb l m h) (omega arith)
count_there m l (x ∷ u) v h = omega (arith, count_there m l u v h)

pub counts_there : (k m l : ℕ) (u v : List ℕ) → l < m → counts_from k m (u ++ l ∷ v) ≡ counts_from k m (u ++ v)
unfolding counts_from
counts_there zero m l u v h = refl
counts_there (suc k) m l u v h =
    ap (λ (x : ℕ). x ∷ counts_from k (suc m) (u ++ l ∷ v)) (count_there m l u v (λ e. omega arith)) ∙ ap (λ r. count_of m (u ++ v) ∷ r) (counts_there k (suc m) l u v (omega arith))

abbrev more : List ℕ → ℕ → List ℕ
more v j = set v j (byte_at v j + 1)

counts_more : (k m l : ℕ) (u v : List ℕ) → m ≤ l → l < m + k → counts_from k m (u ++ l ∷ v) ≡ more (counts_from k m (u ++ v)) (l - m)
unfolding counts_from
counts_more zero m l u v h i = absurd (omega arith)
counts_more (suc k) m l u v h i = go (eqb l m) refl (counts_more k (suc m) l u v)
  where
    go : (q : Bool) → eqb l m ≡ q → (suc m ≤ l → l < suc m + k → counts_from k (suc m) (u ++ l ∷ v) ≡ more (counts_from k (suc m) (u ++ v)) (l - suc m)) →
        counts_from (suc k) m (u ++ l ∷ v) ≡ more (counts_from (suc k) m (u ++ v)) (l - m)
    go true q ih =
        let e : l ≡ m = eqb-true l m q in
        let z : l - m ≡ 0 = omega arith in
        let a : count_of m (u ++ l ∷ v) ≡ count_of m (u ++ v) + 1 = ap (λ (x : ℕ). count_of m (u ++ x ∷ v)) e ∙ count_here m u v in
        rw (z, a, counts_there k (suc m) l u v (omega arith))
    go false q ih =
        let n = eqb-false l m q in
        let z : l - m ≡ suc (l - suc m) = omega arith in
        rw (z, count_there m l u v n, ih (omega arith) (omega arith))

-- what is written ------------------------------------------------------------------------------------------------------------------------------------

module _ (at most : ℕ) (b : List ℕ) where
  abbrev laid : ℕ → List ℕ → List ℕ → List ℕ → List ℕ
  laid n cs os ws = sets (sets (sets (sets b at (n ∷ [])) (at + 1) cs) (commands_at at) os) (words_at at most) ws

  write_some : (rs : List Row) → 0 < length rs → (table at most).write rs b ≡ laid (length rs) (counts_from word_limit 1 (lengths_of rs)) (commands_of rs) (words_of rs)
  write_some rs h =
      write_is at most b rs
      ∙ ap (λ q. laid (length rs) (cond q [] (counts_from word_limit 1 (lengths_of rs))) (commands_of rs) (words_of rs)) (ne_eqb (length rs) 0 (λ e. omega arith))

  -- where a row gets another command, only that
  module _ (xs : List Row) (r : Row) (zs : List Row) (s : Stored at most b (xs ++ r ∷ zs)) where
    inside : length xs < length (commands_of (xs ++ r ∷ zs))
    inside = omega (arith, commands_length (xs ++ r ∷ zs), length-append xs (r ∷ zs))

    pub write_other : (c : ℕ) → (table at most).write (xs ++ row r.word c ∷ zs) b ≡ set b (commands_at at + length xs) c
    unfolding lengths_of words_of
    write_other c =
        let t = row r.word c in
        let rs = xs ++ r ∷ zs in
        let cs = counts_from word_limit 1 (lengths_of rs) in
        let os = set (commands_of rs) (length xs) c in
        let e0 : length (xs ++ t ∷ zs) ≡ byte_at b at = length-append xs (t ∷ zs) ∙ sym (length-append xs (r ∷ zs)) ∙ sym s.number in
        let e1 : lengths_of (xs ++ t ∷ zs) ≡ lengths_of rs = lengths_append xs (t ∷ zs) ∙ sym (lengths_append xs (r ∷ zs)) in
        let e3 : words_of (xs ++ t ∷ zs) ≡ words_of rs = words_append xs (t ∷ zs) ∙ sym (words_append xs (r ∷ zs)) in
        let p = commands_at at + length xs in
        write_some (xs ++ t ∷ zs) (omega (arith, length-append xs (t ∷ zs)))
        ∙ rw (e0, e1, commands_other xs r t zs, e3)
        (rw (set-get_or b at 0, sets_there s.counts, sets_other (length xs) c s.commands inside)
        (sets_there (there_behind p (c ∷ []) s.words (omega (arith, s.few, length-append xs (r ∷ zs))))))

  -- where one more is put between them: the number and a count are one more, its command and its word stand before those behind it
  module _ (xs ys : List Row) (w : List ℕ) (c : ℕ) (s : Stored at most b (xs ++ ys)) (room : length (xs ++ ys) < most) (some : 1 ≤ length w) (short : length w ≤ word_limit) where
    abbrev place : ℕ
    place = words_at at most + length (words_of xs)

    abbrev numbered : List ℕ
    numbered = set (set b at (byte_at b at + 1)) (at + length w) (byte_at b (at + length w) + 1)

    commands_two : There b (commands_at at) (commands_of xs ++ commands_of ys)
    commands_two = rw (← commands_append xs ys) s.commands

    words_two : There b (words_at at most) (words_of xs ++ words_of ys)
    words_two = rw (← words_append xs ys) s.words

    commands_behind : commands_of ys ≡ part_of b (commands_at at + length xs) (commands_at at + byte_at b at)
    commands_behind =
        let e : length (commands_of xs) ≡ length xs = commands_length xs in
        let k : commands_at at + length xs + length (commands_of ys) ≡ commands_at at + byte_at b at = omega (arith, s.number, commands_length ys, length-append xs ys) in
        sym (there_rest (commands_of xs) (commands_of ys) commands_two).same
        ∙ ap (λ (i : ℕ). part_of b (commands_at at + i) (commands_at at + i + length (commands_of ys))) e
        ∙ ap (part_of b (commands_at at + length xs)) k

    words_behind : words_of ys ≡ part_of b place (words_at at most + length (words_of (xs ++ ys)))
    words_behind =
        let k : place + length (words_of ys) ≡ words_at at most + length (words_of (xs ++ ys)) = omega (arith, ap length (words_append xs ys), length-append (words_of xs) (words_of ys)) in
        sym (there_rest (words_of xs) (words_of ys) words_two).same ∙ ap (part_of b place) k

    -- one count is one more
    counts_one : sets (set b at (byte_at b at + 1)) (at + 1) (counts_from word_limit 1 (lengths_of (xs ++ row w c ∷ ys))) ≡ numbered
    unfolding lengths_of
    counts_one =
        let j = length w - 1 in
        let n = byte_at b at + 1 in
        let v = counts_from word_limit 1 (lengths_of (xs ++ ys)) in
        let e : counts_from word_limit 1 (lengths_of (xs ++ row w c ∷ ys)) ≡ more v j =
        ap (counts_from word_limit 1) (lengths_append xs (row w c ∷ ys))
        ∙ counts_more word_limit 1 (length w) (lengths_of xs) (lengths_of ys) some (omega arith)
        ∙ ap (λ u. more (counts_from word_limit 1 u) j) (sym (lengths_append xs ys)) in
        let l : j < length v = omega (arith, counts_length word_limit 1 (lengths_of (xs ++ ys))) in
        let p : at + 1 + j ≡ at + length w = omega arith in
        let x : byte_at v j ≡ byte_at b (at + length w) = there_byte j s.counts l ∙ ap (byte_at b) p in
        ap (sets (set b at n) (at + 1)) e
        ∙ sets_other j (byte_at v j + 1) (there_behind at (n ∷ []) s.counts (omega arith)) l
        ∙ ap (λ (i : ℕ). set (set b at n) i (byte_at v j + 1)) p
        ∙ ap (λ (y : ℕ). set (set b at n) (at + length w) (y + 1)) x

    pub write_new : (table at most).write (xs ++ row w c ∷ ys) b ≡
        sets (sets numbered (commands_at at + length xs) (c ∷ part_of b (commands_at at + length xs) (commands_at at + byte_at b at))) place
        (w ++ part_of b place (words_at at most + length (words_of (xs ++ ys))))
    unfolding commands_of words_of
    write_new =
        let n = byte_at b at + 1 in
        let x = byte_at b (at + length w) + 1 in
        let q = commands_at at + length xs in
        let e0 : length (xs ++ row w c ∷ ys) ≡ n = omega (arith, s.number, length-append xs (row w c ∷ ys), length-append xs ys) in
        let e2 : commands_of (xs ++ row w c ∷ ys) ≡ commands_of xs ++ (c ∷ commands_of ys) = commands_append xs (row w c ∷ ys) in
        let e3 : words_of (xs ++ row w c ∷ ys) ≡ words_of xs ++ (w ++ words_of ys) = words_append xs (row w c ∷ ys) in
        let c1 = there_behind (at + length w) (x ∷ []) (there_behind at (n ∷ []) (there_first (commands_of xs) (commands_of ys) commands_two) (omega arith)) (omega arith) in
        let w0 = there_behind (at + length w) (x ∷ []) (there_behind at (n ∷ []) (there_first (words_of xs) (words_of ys) words_two) (omega arith)) (omega arith) in
        let w1 = there_behind q (c ∷ commands_of ys) w0 (omega (arith, commands_length ys, length-append xs ys)) in
        write_some (xs ++ row w c ∷ ys) (omega (arith, e0))
        ∙ ap (λ (k : ℕ). laid k (counts_from word_limit 1 (lengths_of (xs ++ row w c ∷ ys))) (commands_of (xs ++ row w c ∷ ys)) (words_of (xs ++ row w c ∷ ys))) e0
        ∙ ap (λ u. sets (sets u (commands_at at) (commands_of (xs ++ row w c ∷ ys))) (words_at at most) (words_of (xs ++ row w c ∷ ys))) counts_one
        ∙ ap (λ u. sets (sets numbered (commands_at at) u) (words_at at most) (words_of (xs ++ row w c ∷ ys))) e2
        ∙ ap (λ u. sets (sets numbered (commands_at at) (commands_of xs ++ (c ∷ commands_of ys))) (words_at at most) u) e3
        ∙ ap (λ u. sets u (words_at at most) (words_of xs ++ (w ++ words_of ys)))
        (sets_past (c ∷ commands_of ys) c1 ∙ ap (λ (k : ℕ). sets numbered (commands_at at + k) (c ∷ commands_of ys)) (commands_length xs))
        ∙ sets_past (w ++ words_of ys) w1
        ∙ ap (λ u. sets (sets numbered q (c ∷ u)) place (w ++ words_of ys)) commands_behind
        ∙ ap (λ u. sets (sets numbered q (c ∷ part_of b q (commands_at at + byte_at b at))) place (w ++ u)) words_behind
