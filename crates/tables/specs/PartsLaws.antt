-- Rows in parts and back: facts of lists, without bytes or places.
-- Assumes nothing.
use Rattle.std.specs.Prelude.{◌≡◌, ℕ, zero, suc, ◌+◌, ◌*◌, ◌<◌, ◌≤◌, Bool, true, false, cond, ◌&&◌, List, [], ◌∷◌, ◌++◌, length, take, drop, ◌==◌, ◌≢◌, nat_le, slice_index, refl}
use Rattle.std.proofs.Common.{sym, ◌∙◌, ap, append_assoc, zero-mul, mul-suc, suc-mul, mul-add, mul_comm, mul-le-mul_left, arith, length-append, length-drop, length-take-le, drop_at, take_all, take-add, drop-drop}
use Rattle.std.proofs.Math.Seq.{take-append_seam}
use Rattle.std.proofs.lemmas.List.{take-append-le, drop-append-le}
use borrow.Author.Tests.{eqb-true, leb-true, eqb-false, eq-eqb, ne_eqb, le-leb}
use Rattle.words.specs.Words.{Row}
use Rattle.fields.specs.BoolLaws.{and_both, and_of}
use Rattle.tables.specs.Table.{lengths_of, commands_of, words_of, count_of, counts_from, repeated, lengths_from, sum, cut}

-- rows that are cut out of bytes -----------------------------------------------------------------------------------------------------------------

pub cut_length : (ls cs ws : List ℕ) → length (cut ls cs ws) ≡ length ls
unfolding cut
cut_length [] cs ws = refl
cut_length (l ∷ ls) cs ws = ap suc (cut_length ls (drop 1 cs) (drop l ws))

pub cut_lengths : (ls cs ws : List ℕ) → sum ls ≤ length ws → lengths_of (cut ls cs ws) ≡ ls
unfolding cut lengths_of sum
cut_lengths [] cs ws h = refl
cut_lengths (l ∷ ls) cs ws h =
    let e : length (take l ws) ≡ l = length-take-le l ws (omega arith) in
    ap (λ x. x ∷ lengths_of (cut ls (drop 1 cs) (drop l ws))) e ∙ ap (λ x. l ∷ x) (cut_lengths ls (drop 1 cs) (drop l ws) (omega (arith, length-drop l ws)))

-- the commands and the words of rows that are cut out of longer bytes, and of as many
pub commands_taken : (ls os ws : List ℕ) → length ls ≤ length os → commands_of (cut ls os ws) ≡ take (length ls) os
unfolding cut commands_of
commands_taken [] os ws h = refl
commands_taken (l ∷ ls) [] ws h = absurd (omega arith)
commands_taken (l ∷ ls) (o ∷ os) ws h = ap (λ v. o ∷ v) (commands_taken ls os (drop l ws) (omega arith))

pub cut_commands : (ls cs ws : List ℕ) → length ls ≡ length cs → commands_of (cut ls cs ws) ≡ cs
cut_commands ls cs ws h = commands_taken ls cs ws (omega arith) ∙ take_all (length ls) cs (omega arith)

pub empty : (ws : List ℕ) → length ws ≡ 0 → [] ≡ ws
empty [] h = refl
empty (w ∷ ws) h = absurd (omega arith)

pub words_taken : (ls os ws : List ℕ) → words_of (cut ls os ws) ≡ take (sum ls) ws
unfolding cut words_of sum
words_taken [] os ws = refl
words_taken (l ∷ ls) os ws = ap (λ v. take l ws ++ v) (words_taken ls (drop 1 os) (drop l ws)) ∙ sym (take-add l (sum ls) ws)

pub cut_words : (ls cs ws : List ℕ) → sum ls ≡ length ws → words_of (cut ls cs ws) ≡ ws
cut_words ls cs ws h = words_taken ls cs ws ∙ take_all (sum ls) ws (omega arith)

-- what stands behind the commands and the words is not looked at
pub cut_append : (ls os us ws vs : List ℕ) → length ls ≤ length os → sum ls ≤ length ws → cut ls (os ++ us) (ws ++ vs) ≡ cut ls os ws
unfolding cut sum
cut_append [] os us ws vs h k = refl
cut_append (l ∷ ls) [] us ws vs h k = absurd (omega arith)
cut_append (l ∷ ls) (o ∷ os) us ws vs h k =
    ap (λ v. record { word = v; command = o } ∷ cut ls (os ++ us) (drop l (ws ++ vs))) (take-append-le l ws vs (omega arith))
    ∙ ap (λ v. record { word = take l ws; command = o } ∷ cut ls (os ++ us) v) (drop-append-le l ws vs (omega arith))
    ∙ ap (λ v. record { word = take l ws; command = o } ∷ v) (cut_append ls os us (drop l ws) vs (omega arith) (omega (arith, length-drop l ws)))

-- and rows that are put together again
pub cut_again : (rs : List Row) → cut (lengths_of rs) (commands_of rs) (words_of rs) ≡ rs
unfolding cut lengths_of commands_of words_of
cut_again [] = refl
cut_again (r ∷ rs) =
    let w = r.word in
    let t : take (length w) (w ++ words_of rs) ≡ w = take-append_seam w (words_of rs) in
    let d : drop (length w) (w ++ words_of rs) ≡ words_of rs = drop_at w (words_of rs) (length w) refl in
    ap (λ v. record { word = v; command = r.command } ∷ cut (lengths_of rs) (commands_of rs) (drop (length w) (w ++ words_of rs))) t
    ∙ ap (λ v. r ∷ cut (lengths_of rs) (commands_of rs) v) d
    ∙ ap (λ v. r ∷ v) (cut_again rs)

pub lengths_length : (rs : List Row) → length (lengths_of rs) ≡ length rs
unfolding lengths_of
lengths_length [] = refl
lengths_length (r ∷ rs) = ap suc (lengths_length rs)

pub commands_length : (rs : List Row) → length (commands_of rs) ≡ length rs
unfolding commands_of
commands_length [] = refl
commands_length (r ∷ rs) = ap suc (commands_length rs)

pub words_length : (rs : List Row) → length (words_of rs) ≡ sum (lengths_of rs)
unfolding words_of lengths_of sum
words_length [] = refl
words_length (r ∷ rs) = length-append r.word (words_of rs) ∙ ap (λ (n : ℕ). length r.word + n) (words_length rs)

-- lengths from counts -----------------------------------------------------------------------------------------------------------------------------

pub repeated_length : (c m : ℕ) → length (repeated c m) ≡ c
unfolding repeated
repeated_length zero m = refl
repeated_length (suc c) m = ap suc (repeated_length c m)

pub from_length : (m : ℕ) (cs : List ℕ) → length (lengths_from m cs) ≡ sum cs
unfolding lengths_from sum
from_length m [] = refl
from_length m (c ∷ cs) = length-append (repeated c m) (lengths_from (suc m) cs) ∙ omega (arith, repeated_length c m, from_length (suc m) cs)

pub sum_append : (xs ys : List ℕ) → sum (xs ++ ys) ≡ sum xs + sum ys
unfolding sum
sum_append [] ys = omega arith
sum_append (x ∷ xs) ys = omega (arith, sum_append xs ys)

pub sum_repeated : (c m : ℕ) → sum (repeated c m) ≡ c * m
unfolding sum repeated
sum_repeated zero m = sym (zero-mul m)
sum_repeated (suc c) m = omega (arith, sum_repeated c m, suc-mul c m)

count_same : (m c : ℕ) (r : List ℕ) → count_of m (repeated c m ++ r) ≡ c + count_of m r
unfolding count_of repeated
count_same m zero r = omega arith
count_same m (suc c) r = rw (eq-eqb m m refl) (omega (arith, count_same m c r))

pub count_other : (m l c : ℕ) (r : List ℕ) → (l ≢ m) → count_of m (repeated c l ++ r) ≡ count_of m r
unfolding count_of repeated
count_other m l zero r h = refl
count_other m l (suc c) r h = rw (ne_eqb l m h) (omega (arith, count_other m l c r h))

pub count_later : (m k : ℕ) (cs : List ℕ) → m < k → count_of m (lengths_from k cs) ≡ 0
unfolding count_of lengths_from
count_later m k [] h = refl
count_later m k (c ∷ cs) h = count_other m k c (lengths_from (suc k) cs) (λ e. omega arith) ∙ count_later m (suc k) cs (omega arith)

counts_skip : (k j m c : ℕ) (r : List ℕ) → m < j → counts_from k j (repeated c m ++ r) ≡ counts_from k j r
unfolding counts_from
counts_skip zero j m c r h = refl
counts_skip (suc k) j m c r h = ap (λ x. x ∷ counts_from k (suc j) (repeated c m ++ r)) (count_other j m c r (λ e. omega arith)) ∙ ap (λ x. count_of j r ∷ x) (counts_skip k (suc j) m c r (omega arith))

pub counts_again : (m : ℕ) (cs : List ℕ) → counts_from (length cs) m (lengths_from m cs) ≡ cs
unfolding counts_from lengths_from
counts_again m [] = refl
counts_again m (c ∷ cs) =
    let e : count_of m (repeated c m ++ lengths_from (suc m) cs) ≡ c = count_same m c (lengths_from (suc m) cs) ∙ omega (arith, count_later m (suc m) cs (omega arith)) in
    ap (λ x. x ∷ counts_from (length cs) (suc m) (repeated c m ++ lengths_from (suc m) cs)) e
    ∙ ap (λ x. c ∷ x) (counts_skip (length cs) (suc m) m c (lengths_from (suc m) cs) (omega arith) ∙ counts_again (suc m) cs)

-- counts from lengths, which ascend ----------------------------------------------------------------------------------------------------------------

-- from m on, below t
unfoldable pub ascends : ℕ → ℕ → List ℕ → Bool
ascends m t [] = true
ascends m t (l ∷ ls) = nat_le m l && (nat_le (suc l) t && ascends l t ls)

module _ (m t l : ℕ) (ls : List ℕ) (h : ascends m t (l ∷ ls) ≡ true) where
  asc_least : m ≤ l
  unfolding ascends
  asc_least = leb-true m l (and_both (nat_le m l) (nat_le (suc l) t && ascends l t ls) h).0

  asc_most : l < t
  unfolding ascends
  asc_most = leb-true (suc l) t (and_both (nat_le (suc l) t) (ascends l t ls) (and_both (nat_le m l) (nat_le (suc l) t && ascends l t ls) h).1).0

  asc_rest : ascends l t ls ≡ true
  unfolding ascends
  asc_rest = (and_both (nat_le (suc l) t) (ascends l t ls) (and_both (nat_le m l) (nat_le (suc l) t && ascends l t ls) h).1).1

pub asc_of : (m t l : ℕ) (ls : List ℕ) → m ≤ l → l < t → ascends l t ls ≡ true → ascends m t (l ∷ ls) ≡ true
unfolding ascends
asc_of m t l ls h k r = and_of (le-leb m l h) (and_of (le-leb (suc l) t k) r)

count_above : (m l t : ℕ) (ls : List ℕ) → m < l → ascends l t ls ≡ true → count_of m ls ≡ 0
unfolding count_of
count_above m l t [] h k = refl
count_above m l t (x ∷ ls) h k =
    let a = asc_least l t x ls k in
    rw (ne_eqb x m (λ e. omega arith)) (omega (arith, count_above m x t ls (omega arith) (asc_rest l t x ls k)))

later : ℕ → List ℕ → List ℕ
later m [] = []
later m (l ∷ ls) = cond (l == m) (later m ls) (l ∷ ls)

split : (m t : ℕ) (ls : List ℕ) → ascends m t ls ≡ true → (ls ≡ repeated (count_of m ls) m ++ later m ls) × (ascends (suc m) t (later m ls) ≡ true)
unfolding count_of repeated ascends later
split m t [] h = (refl, refl)
split m t (l ∷ ls) h = go (λ k. split m t ls k) (l == m) refl
  where
    go : (ascends m t ls ≡ true → (ls ≡ repeated (count_of m ls) m ++ later m ls) × (ascends (suc m) t (later m ls) ≡ true)) → (q : Bool) → (l == m) ≡ q →
        ((l ∷ ls) ≡ repeated (cond (l == m) 1 0 + count_of m ls) m ++ cond (l == m) (later m ls) (l ∷ ls)) × (ascends (suc m) t (cond (l == m) (later m ls) (l ∷ ls)) ≡ true)
    go again true e =
        let f = eqb-true l m e in
        let s = again (ap (λ (n : ℕ). ascends n t ls) (sym f) ∙ asc_rest m t l ls h) in
        let one : 1 + count_of m ls ≡ suc (count_of m ls) = omega arith in
        rw (e, one) ((ap (λ (n : ℕ). n ∷ ls) f ∙ ap (λ v. m ∷ v) s.0), s.1)
    go again false e =
        let a = asc_least m t l ls h in
        let n : m < l = omega (arith, a, eqb-false l m e) in
        let z : 0 + count_of m ls ≡ 0 = omega (arith, count_above m l t ls n (asc_rest m t l ls h)) in
        rw (e, z) (refl, asc_of (suc m) t l ls (omega arith) (asc_most m t l ls h) (asc_rest m t l ls h))

pub lengths_again : (k m : ℕ) (ls : List ℕ) → ascends m (m + k) ls ≡ true → lengths_from m (counts_from k m ls) ≡ ls
unfolding lengths_from counts_from
lengths_again zero m [] h = refl
lengths_again zero m (l ∷ ls) h = absurd (omega (arith, asc_least m (m + 0) l ls h, asc_most m (m + 0) l ls h))
lengths_again (suc k) m ls h =
    let s = split m (m + suc k) ls h in
    let c = count_of m ls in
    let r = later m ls in
    let e : m + suc k ≡ suc m + k = omega arith in
    ap (λ v. repeated c m ++ lengths_from (suc m) (counts_from k (suc m) v)) s.0
    ∙ ap (λ v. repeated c m ++ lengths_from (suc m) v) (counts_skip k (suc m) m c r (omega arith))
    ∙ ap (λ v. repeated c m ++ v) (lengths_again k (suc m) r (ap (λ (n : ℕ). ascends (suc m) n r) (sym e) ∙ s.1))
    ∙ sym s.0

pub counts_length : (k m : ℕ) (ls : List ℕ) → length (counts_from k m ls) ≡ k
unfolding counts_from
counts_length zero m ls = refl
counts_length (suc k) m ls = ap suc (counts_length k (suc m) ls)

-- so many words of at most so many bytes, by their counts
pub from_most : (t m : ℕ) (cs : List ℕ) → m + length cs ≤ suc t → sum (lengths_from m cs) ≤ t * sum cs
unfolding lengths_from sum
from_most t m [] h = omega arith
from_most t m (c ∷ cs) h =
    let e = sum_append (repeated c m) (lengths_from (suc m) cs) in
    let r = sum_repeated c m in
    let m≤t : m ≤ t = omega arith in
    let k : c * m ≤ c * t = mul-le-mul_left c m≤t in
    let d : t * (c + sum cs) ≡ t * c + t * sum cs = mul-add t c (sum cs) in
    let f : t * c ≡ c * t = mul_comm t c in
    omega (arith, from_most t (suc m) cs (omega arith))

pub sum_most : (m t : ℕ) (ls : List ℕ) → ascends m (suc t) ls ≡ true → sum ls ≤ t * length ls
unfolding sum
sum_most m t [] h = omega arith
sum_most m t (l ∷ ls) h =
    let a = asc_most m (suc t) l ls h in
    let r = sum_most l t ls (asc_rest m (suc t) l ls h) in
    let e : t * suc (length ls) ≡ t * length ls + t = mul-suc t (length ls) in
    omega arith

-- in two parts

pub cut_two : (xs ys os ws : List ℕ) → cut (xs ++ ys) os ws ≡ cut xs os ws ++ cut ys (drop (length xs) os) (drop (sum xs) ws)
unfolding cut sum
cut_two [] ys os ws = refl
cut_two (x ∷ xs) ys os ws =
    let r : Row = record { word = take x ws; command = slice_index os 0 } in
    let n : 1 + length xs ≡ suc (length xs) = omega arith in
    ap (λ rs. r ∷ rs) (cut_two xs ys (drop 1 os) (drop x ws))
    ∙ ap (λ v. r ∷ (cut xs (drop 1 os) (drop x ws) ++ cut ys v (drop (sum xs) (drop x ws)))) (drop-drop (length xs) 1 os ∙ ap (λ (k : ℕ). drop k os) n)
    ∙ ap (λ v. r ∷ (cut xs (drop 1 os) (drop x ws) ++ cut ys (drop (suc (length xs)) os) v)) (drop-drop (sum xs) x ws)

pub from_append : (m : ℕ) (xs ys : List ℕ) → lengths_from m (xs ++ ys) ≡ lengths_from m xs ++ lengths_from (m + length xs) ys
unfolding lengths_from
from_append m [] ys = let z : m ≡ m + 0 = omega arith in ap (λ (n : ℕ). lengths_from n ys) z
from_append m (x ∷ xs) ys =
    let e : suc m + length xs ≡ m + suc (length xs) = omega arith in
    ap (λ v. repeated x m ++ v) (from_append (suc m) xs ys ∙ ap (λ (n : ℕ). lengths_from (suc m) xs ++ lengths_from n ys) e)
    ∙ sym (append_assoc (repeated x m) (lengths_from (suc m) xs) (lengths_from (m + suc (length xs)) ys))

pub repeated_two : (j k m : ℕ) → repeated (j + k) m ≡ repeated j m ++ repeated k m
unfolding repeated
repeated_two zero k m = let z : 0 + k ≡ k = omega arith in ap (λ (n : ℕ). repeated n m) z
repeated_two (suc j) k m = let e : suc j + k ≡ suc (j + k) = omega arith in ap (λ (n : ℕ). repeated n m) e ∙ ap (λ v. m ∷ v) (repeated_two j k m)
