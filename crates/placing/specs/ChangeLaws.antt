-- Laws of a word that is put into a table: how it is compared with those that stand there, and where it goes among its rows.
-- Assumes nothing.
use Rattle.std.specs.Prelude.{◌≡◌, refl, Bool, true, false, cond, ◌&&◌, List, [], ◌∷◌, ◌++◌, ltb, length, take, drop}
use Rattle.std.proofs.Common.{sym, ◌∙◌, mul-le-mul_right, length-take, get_or-drop, get_or-take, length-take-le}
use Rattle.std.proofs.Math.Path.{ap}
use Prim.Native.Nat.{ℕ, zero, suc, ◌+◌, ◌-◌, ◌*◌, ◌<◌, ◌≤◌}
use native.Mathlib.Omega.{arith}
use Rattle.std.proofs.Math.ListN.{drop_of_length-le}
use Rattle.std.proofs.Math.Seq.{drop-drop}
use borrow.Author.Tests.{ltb-true, ltb-false, eq-eqb, ne_eqb, lt-ltb, le-ltb}
use Rattle.scan.specs.Number.{number_of}
use Rattle.scan.specs.PartLaws.{part_length}
use Rattle.scan.specs.RunLaws.{drop_step}
use Rattle.scan.specs.Scan.{byte_at, part_of}
use Rattle.words.specs.Words.{Row, same, lookup_in}
use Rattle.words.specs.LookupLaws.{lookup_past}
use Rattle.fields.specs.Field.{Bytes}
use Rattle.fields.specs.BoolLaws.{and_both, and_of}
use Rattle.tables.specs.Table.{is_after, repeated, lengths_from, sum, cut}
use Rattle.tables.specs.TailLaws.{high_less, bytes_part, after_is}
use Rattle.placing.specs.Change.{row, insert}
use Rattle.placing.specs.AfterLaws.{after_back, after_other, insert_here, insert_past}
use Rattle.tables.specs.Walk.{rank}
use Rattle.tables.specs.PartsLaws.{cut_two}
use Rattle.tables.specs.OrderLaws.{after_longer}

-- two words of one length --------------------------------------------------------------------------------------------------------------------------

-- alike from k + 1 on: the bytes at k tell which is less, where they are not alike
module _ (v w : List ℕ) (k : ℕ) (long : length v ≡ length w) (inside : k < length w) (alike : drop (k + 1) v ≡ drop (k + 1) w) where
  last_less : Bytes v → byte_at v k < byte_at w k → number_of v < number_of w
  unfolding number_of
  last_less b h =
      let n : number_of (drop (k + 1) v) ≡ number_of (drop (k + 1) w) = ap number_of alike in
      let l : number_of (drop k v) < number_of (drop k w) = rw (drop_step v k (omega arith), drop_step w k inside) (omega arith) in
      high_less v w long k b l

last_tells : (v w : List ℕ) (k : ℕ) → length v ≡ length w → k < length w → drop (k + 1) v ≡ drop (k + 1) w → Bytes v → Bytes w → (byte_at v k ≡ byte_at w k → ⊥) →
    ltb (byte_at v k) (byte_at w k) ≡ ltb (number_of v) (number_of w)
last_tells v w k l i e b d n = go (ltb (byte_at v k) (byte_at w k)) refl
  where
    go : (q : Bool) → ltb (byte_at v k) (byte_at w k) ≡ q → q ≡ ltb (number_of v) (number_of w)
    go true h = sym (lt-ltb (number_of v) (number_of w) (last_less v w k l i e b (ltb-true (byte_at v k) (byte_at w k) h)))
    go false h =
        let g : byte_at w k < byte_at v k = omega (arith, ltb-false (byte_at v k) (byte_at w k) h, n) in
        sym (le-ltb (number_of v) (number_of w) (omega (arith, last_less w v k (sym l) (omega arith) (sym e) d g)))

-- and they are alike from k on, where those are
pub last_alike : (v w : List ℕ) (k : ℕ) → length v ≡ length w → k < length w → drop (k + 1) v ≡ drop (k + 1) w → byte_at v k ≡ byte_at w k → drop k v ≡ drop k w
last_alike v w k l i e x =
    drop_step v k (omega arith) ∙ ap (λ (n : ℕ). n ∷ drop (k + 1) v) x ∙ ap (λ u. byte_at w k ∷ u) e ∙ sym (drop_step w k i)

-- the word at q of b, as long as w -----------------------------------------------------------------------------------------------------------------

module _ (b : List ℕ) (q : ℕ) (w : List ℕ) where
  abbrev there : List ℕ
  there = part_of b q (q + length w)

  module _ (fits : q + length w ≤ length b) where
    there_length : length there ≡ length w
    there_length = omega (arith, part_length b q (q + length w) fits)

    there_byte : (k : ℕ) → k < length w → byte_at there k ≡ byte_at b (q + k)
    there_byte k h = get_or-take (q + length w - q) (drop q b) k 0 (omega arith) ∙ get_or-drop q b k 0

    there_first : (k : ℕ) → k < length w → drop k there ≡ byte_at b (q + k) ∷ drop (k + 1) there
    there_first k h = drop_step there k (omega (arith, there_length)) ∙ ap (λ (x : ℕ). x ∷ drop (k + 1) there) (there_byte k h)

    -- compared from the last byte down
    module _ (k : ℕ) (some : 0 < k) (inside : k ≤ length w) (alike : drop k there ≡ drop k w) where
      one_less : drop (k - 1 + 1) there ≡ drop (k - 1 + 1) w
      one_less = let e : k - 1 + 1 ≡ k = omega arith in rw e alike

      pub before_told : Bytes b → Bytes w → (byte_at b (q + (k - 1)) ≡ byte_at w (k - 1) → ⊥) → ltb (byte_at b (q + (k - 1))) (byte_at w (k - 1)) ≡ ltb (number_of there) (number_of w)
      before_told p r n =
          let e = there_byte (k - 1) (omega arith) in
          ap (λ (x : ℕ). ltb x (byte_at w (k - 1))) (sym e)
          ∙ last_tells there w (k - 1) there_length (omega arith) one_less (bytes_part q (q + length w) b p) r (λ f. n (sym e ∙ f))

      pub before_on : byte_at b (q + (k - 1)) ≡ byte_at w (k - 1) → drop (k - 1) there ≡ drop (k - 1) w
      before_on x = last_alike there w (k - 1) there_length (omega arith) one_less (there_byte (k - 1) (omega arith) ∙ x)

    pub before_start : drop (length w) there ≡ drop (length w) w
    before_start = drop_of_length-le there {i = length w} (omega (arith, there_length)) ∙ sym (drop_of_length-le w {i = length w} (omega arith))

    pub before_not : (k : ℕ) → k ≤ 0 → drop k there ≡ drop k w → false ≡ ltb (number_of there) (number_of w)
    before_not zero h e = sym (le-ltb (number_of there) (number_of w) (omega (arith, ap number_of e)))
    before_not (suc k) h e = absurd (omega arith)

    -- compared from the first byte on
    module _ (k : ℕ) (inside : k < length w) where
      pub same_on : byte_at b (q + k) ≡ byte_at w k → same (drop k w) (drop k there) ≡ same (drop (k + 1) w) (drop (k + 1) there)
      unfolding same
      same_on e = rw (drop_step w k inside, there_first k inside, eq-eqb (byte_at w k) (byte_at b (q + k)) (sym e))

      pub same_not : (byte_at b (q + k) ≡ byte_at w k → ⊥) → same (drop k w) (drop k there) ≡ false
      unfolding same
      same_not n = rw (drop_step w k inside, there_first k inside, ne_eqb (byte_at w k) (byte_at b (q + k)) (λ e. n (sym e)))

    pub same_all : (k : ℕ) → length w ≤ k → same (drop k w) (drop k there) ≡ true
    unfolding same
    same_all k h = rw (drop_of_length-le w h, drop_of_length-le there {i = k} (omega (arith, there_length)))

    -- counted among those from q on
    front : take (length w) (drop q b) ≡ there
    front = let e : length w ≡ q + length w - q = omega arith in ap (λ (n : ℕ). take n (drop q b)) e

    front_after : is_after (take (length w) (drop q b)) w ≡ ltb (number_of there) (number_of w)
    front_after = ap (λ v. is_after v w) front ∙ after_is there w there_length

    pub rank_on : (c j : ℕ) → j < c → ltb (number_of there) (number_of w) ≡ true → rank (c - j) w (drop q b) ≡ suc (rank (c - (j + 1)) w (drop (q + length w) b))
    unfolding rank
    rank_on c j h e =
        let n : c - j ≡ suc (c - (j + 1)) = omega arith in
        rw (n, front_after, e, drop-drop (length w) q b)

    pub rank_stop : (c j : ℕ) → j < c → ltb (number_of there) (number_of w) ≡ false → rank (c - j) w (drop q b) ≡ 0
    unfolding rank
    rank_stop c j h e =
        let n : c - j ≡ suc (c - (j + 1)) = omega arith in
        rw (n, front_after, e)

pub rank_none : (c j : ℕ) (w ws : List ℕ) → c ≤ j → rank (c - j) w ws ≡ 0
unfolding rank
rank_none c j w ws h = let n : c - j ≡ 0 = omega arith in rw n

-- the j-th of c words of m bytes ends before they do
pub rows_fit : (j c m : ℕ) → j < c → j * m + m ≤ c * m
rows_fit j c m h = omega (arith, mul-le-mul_right m h)

-- rows that come before a word, and those ahead of which it stands --------------------------------------------------------------------------------------

unfoldable pub all_before : List ℕ → List Row → Bool
all_before w [] = true
all_before w (r ∷ rs) = is_after r.word w && all_before w rs

unfoldable pub ahead : List ℕ → List Row → Bool
ahead w [] = true
ahead w (r ∷ rs) = is_after w r.word

pub insert_beyond : (w : List ℕ) (c : ℕ) (xs ys : List Row) → all_before w xs ≡ true → insert w c (xs ++ ys) ≡ xs ++ insert w c ys
unfolding all_before
insert_beyond w c [] ys h = refl
insert_beyond w c (x ∷ xs) ys h =
    let k = and_both (is_after x.word w) (all_before w xs) h in
    insert_past x (xs ++ ys) w c (after_back x.word w k.0) (after_other x.word w k.0) ∙ ap (λ v. x ∷ v) (insert_beyond w c xs ys k.1)

pub lookup_beyond : (w : List ℕ) (xs ys : List Row) → all_before w xs ≡ true → lookup_in (xs ++ ys) w ≡ lookup_in ys w
unfolding all_before
lookup_beyond w [] ys h = refl
lookup_beyond w (x ∷ xs) ys h =
    let k = and_both (is_after x.word w) (all_before w xs) h in
    lookup_past x (xs ++ ys) w (after_other x.word w k.0) ∙ lookup_beyond w xs ys k.1

pub insert_ahead : (w : List ℕ) (c : ℕ) (ys : List Row) → ahead w ys ≡ true → insert w c ys ≡ row w c ∷ ys
unfolding ahead insert
insert_ahead w c [] h = refl
insert_ahead w c (y ∷ ys) h = insert_here y ys w c h

pub before_append : (w : List ℕ) (xs ys : List Row) → all_before w xs ≡ true → all_before w ys ≡ true → all_before w (xs ++ ys) ≡ true
unfolding all_before
before_append w [] ys h k = k
before_append w (x ∷ xs) ys h k =
    let p = and_both (is_after x.word w) (all_before w xs) h in
    and_of p.0 (before_append w xs ys p.1 k)

-- words of other lengths -------------------------------------------------------------------------------------------------------------------------------

-- words of lower lengths come before a word
short_repeated : (w : List ℕ) (c l : ℕ) (cs ws : List ℕ) → l < length w → all_before w (cut (repeated c l) cs ws) ≡ true
unfolding all_before cut repeated
short_repeated w zero l cs ws h = refl
short_repeated w (suc c) l cs ws h = and_of (after_longer (take l ws) w (omega (arith, length-take l ws))) (short_repeated w c l (drop 1 cs) (drop l ws) h)

pub short_before : (w : List ℕ) (k : ℕ) (ns cs ws : List ℕ) → k + length ns ≤ length w → all_before w (cut (lengths_from k ns) cs ws) ≡ true
unfolding all_before cut lengths_from
short_before w k [] cs ws h = refl
short_before w k (n ∷ ns) cs ws h =
    let u = repeated n k in
    let a = short_repeated w n k cs ws (omega arith) in
    let b = short_before w (suc k) ns (drop (length u) cs) (drop (sum u) ws) (omega arith) in
    ap (all_before w) (cut_two u (lengths_from (suc k) ns) cs ws) ∙ before_append w (cut u cs ws) (cut (lengths_from (suc k) ns) (drop (length u) cs) (drop (sum u) ws)) a b

-- and those of higher ones after it
pub long_ahead : (w : List ℕ) (k : ℕ) (ns cs ws : List ℕ) → length w < k → sum (lengths_from k ns) ≤ length ws → ahead w (cut (lengths_from k ns) cs ws) ≡ true
unfolding ahead cut lengths_from repeated sum
long_ahead w k [] cs ws h i = refl
long_ahead w k (zero ∷ ns) cs ws h i = long_ahead w (suc k) ns cs ws (omega arith) i
long_ahead w k (suc n ∷ ns) cs ws h i = after_longer w (take k ws) (omega (arith, length-take-le k ws (omega arith)))

-- as many of its own length as `rank` counts come before it, and the next does not
pub rank_before : (c : ℕ) (w cs ws : List ℕ) → all_before w (cut (repeated (rank c w ws) (length w)) cs ws) ≡ true
unfolding rank all_before cut repeated
rank_before zero w cs ws = refl
rank_before (suc c) w cs ws = go (is_after (take (length w) ws) w) refl (rank_before c w (drop 1 cs) (drop (length w) ws))
  where
    go : (q : Bool) → is_after (take (length w) ws) w ≡ q → all_before w (cut (repeated (rank c w (drop (length w) ws)) (length w)) (drop 1 cs) (drop (length w) ws)) ≡ true →
        all_before w (cut (repeated (cond q (suc (rank c w (drop (length w) ws))) 0) (length w)) cs ws) ≡ true
    go true e k = and_of e k
    go false e k = refl

pub rank_most : (c : ℕ) (w ws : List ℕ) → rank c w ws ≤ c
unfolding rank
rank_most zero w ws = omega arith
rank_most (suc c) w ws = go (is_after (take (length w) ws) w) (rank_most c w (drop (length w) ws))
  where
    go : (q : Bool) → rank c w (drop (length w) ws) ≤ c → cond q (suc (rank c w (drop (length w) ws))) 0 ≤ suc c
    go true k = omega arith
    go false k = omega arith

pub rank_next : (c : ℕ) (w ws : List ℕ) → rank c w ws < c → is_after (take (length w) (drop (rank c w ws * length w) ws)) w ≡ false
unfolding rank
rank_next zero w ws h = absurd (omega arith)
rank_next (suc c) w ws h = go (is_after (take (length w) ws) w) refl h (rank_next c w (drop (length w) ws))
  where
    j : ℕ
    j = rank c w (drop (length w) ws)

    go : (q : Bool) → is_after (take (length w) ws) w ≡ q → cond q (suc j) 0 < suc c → (j < c → is_after (take (length w) (drop (j * length w) (drop (length w) ws))) w ≡ false) →
        is_after (take (length w) (drop (cond q (suc j) 0 * length w) ws)) w ≡ false
    go true e i ih =
        let n : length w + j * length w ≡ suc j * length w = omega arith in
        ap (λ v. is_after (take (length w) v) w) (sym (drop-drop (j * length w) (length w) ws ∙ ap (λ (k : ℕ). drop k ws) n)) ∙ ih (omega arith)
    go false e i ih = let n : 0 * length w ≡ 0 = omega arith in ap (λ (k : ℕ). is_after (take (length w) (drop k ws)) w) n ∙ e
