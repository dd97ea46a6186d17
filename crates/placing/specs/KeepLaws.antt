-- Laws of good rows: they stay good when a word is put in or taken out, what each word then leads to, and two in which every word leads to
-- the same are the same.
-- Assumes nothing.
use Rattle.std.specs.Prelude.{◌≡◌, Bool, true, false, cond, ◌&&◌, ℕ, zero, suc, ◌+◌, ◌<◌, ◌≤◌, eqb, leb, ltb, length, Option, Some, None}
use Rattle.std.proofs.Math.Path.{refl}
use Rattle.std.proofs.Common.{sym, ◌∙◌, ap, arith, eqb-true, leb-true, leb-false, ltb-true, ltb-false, ne_eqb, le-leb}
use Rattle.std.proofs.lemmas.Bool.{false≢true, lt-leb}
use mathlib.Core.List.{List, [], ◌∷◌}
use Rattle.limits.specs.Limits.{word_limit, last_command}
use Rattle.scan.specs.Bytes.{is_word}
use Rattle.scan.specs.RunLaws.{run_yes, run_no}
use Rattle.scan.specs.Scan.{byte_at, run_from, run_at}
use Rattle.words.specs.Words.{Row, same, lookup_in}
use Rattle.words.specs.LookupLaws.{same_eq, same_refl, lookup_here, lookup_past}
use Rattle.fields.specs.Field.{Bytes}
use Rattle.fields.specs.BoolLaws.{and_both, and_of}
use Rattle.tables.specs.Table.{is_after, is_name, good_row, good_rows, good_table}
use Rattle.placing.specs.Change.{row, insert, remove, is_full}
use Rattle.placing.specs.AfterLaws.{same_back, after_then, after_self, after_either, insert_here, insert_same, insert_past, remove_here, remove_past, Side, less, alike, other, side}
use Rattle.tables.specs.OrderLaws.{after_longer}

-- names are words of bytes ---------------------------------------------------------------------------------------------------------------------------

word_small : (x : ℕ) → is_word x ≡ true → x < 256
unfolding is_word
word_small x h = go (ltb x 256) refl
  where
    go : (q : Bool) → ltb x 256 ≡ q → x < 256
    go true e = ltb-true x 256 e
    go false e =
        let n : 256 ≤ x = ltb-false x 256 e in
        let z : is_word x ≡ false = rw (
          le-leb 0x41 x (omega arith),
          lt-leb x 0x5A (omega arith),
          le-leb 0x61 x (omega arith),
          lt-leb x 0x7A (omega arith),
          ne_eqb x 0x23 (λ e. omega arith),
          ne_eqb x 0x26 (λ e. omega arith),
          ne_eqb x 0x2A (λ e. omega arith),
          ne_eqb x 0x3C (λ e. omega arith),
          ne_eqb x 0x3D (λ e. omega arith),
          ne_eqb x 0x3E (λ e. omega arith),
          ne_eqb x 0x40 (λ e. omega arith),
          ne_eqb x 0x7E (λ e. omega arith),
        ) in
        absurd (false≢true (sym z ∙ h))

run_bytes : (xs : List ℕ) (i : ℕ) → run_from is_word i xs ≡ i + length xs → Bytes xs
run_bytes [] i h k = omega arith
run_bytes (x ∷ xs) i h k = go (is_word x) refl (run_bytes xs (i + 1)) k
  where
    go : (q : Bool) → is_word x ≡ q → (run_from is_word (i + 1) xs ≡ i + 1 + length xs → Bytes xs) → (k : ℕ) → byte_at (x ∷ xs) k < 256
    go true e rest zero = word_small x e
    go true e rest (suc k) = rest (omega (arith, h, run_yes is_word i x xs e)) k
    go false e rest k = absurd (omega (arith, h, run_no is_word i x xs e))

name_bytes : (w : List ℕ) → is_name w ≡ true → Bytes w
unfolding is_name run_at
name_bytes w h =
    let a = and_both (leb 1 (length w) && leb (length w) word_limit) (eqb (run_at is_word w 0) (length w)) h in
    let e : run_from is_word 0 w ≡ length w = eqb-true (run_at is_word w 0) (length w) a.1 in
    run_bytes w 0 (omega arith)

-- what good rows say ---------------------------------------------------------------------------------------------------------------------------------

pub record Told (before : List ℕ) (r : Row) : Type 0 where
  pub after : is_after before r.word ≡ true
  pub named : is_name r.word ≡ true
  pub leads : leb r.command last_command ≡ true

row_told : (before : List ℕ) (r : Row) → good_row before r ≡ true → Told before r
unfolding good_row
row_told before r h =
    let a = and_both (is_after before r.word && is_name r.word) (leb r.command last_command) h in
    let b = and_both (is_after before r.word) (is_name r.word) a.0 in
    record { after = b.0; named = b.1; leads = a.1 }

row_good : (before : List ℕ) (r : Row) → Told before r → good_row before r ≡ true
unfolding good_row
row_good before r t = and_of (and_of t.after t.named) t.leads

module _ (before : List ℕ) (r : Row) (rs : List Row) where
  pub rows_told : good_rows before (r ∷ rs) ≡ true → Told before r × (good_rows r.word rs ≡ true)
  unfolding good_rows
  rows_told h = let k = and_both (good_row before r) (good_rows r.word rs) h in (row_told before r k.0, k.1)

  rows_good : Told before r → good_rows r.word rs ≡ true → good_rows before (r ∷ rs) ≡ true
  unfolding good_rows
  rows_good t h = and_of (row_good before r t) h

-- they are good after an earlier word too
rows_sooner : (v before : List ℕ) (rs : List Row) → is_after v before ≡ true → good_rows before rs ≡ true → good_rows v rs ≡ true
unfolding good_rows
rows_sooner v before [] a h = refl
rows_sooner v before (r ∷ rs) a h =
    let k = rows_told before r rs h in
    rows_good v r rs (record { after = after_then v before r.word a k.0.after; named = k.0.named; leads = k.0.leads }) k.1

name_length : (w : List ℕ) → is_name w ≡ true → 1 ≤ length w
unfolding is_name
name_length w h =
    let a = and_both (leb 1 (length w) && leb (length w) word_limit) (eqb (run_at is_word w 0) (length w)) h in
    leb-true 1 (length w) (and_both (leb 1 (length w)) (leb (length w) word_limit) a.0).0

-- the empty word comes before every name
nothing_before : (w : List ℕ) → is_name w ≡ true → is_after [] w ≡ true
nothing_before w h = after_longer [] w (name_length w h)

-- a word that stands among good rows comes after the word before them
known_after : (w : List ℕ) (n : ℕ) (before : List ℕ) (rs : List Row) → good_rows before rs ≡ true → lookup_in rs w ≡ Some n → is_after before w ≡ true
unfolding lookup_in
known_after w n before [] h e = let z : ◌≡◌ {A = ℕ} 0 1 = cc in absurd (omega arith)
known_after w n before (r ∷ rs) h e = go (same w r.word) refl (known_after w n r.word rs (rows_told before r rs h).1) e
  where
    go : (q : Bool) → same w r.word ≡ q → (lookup_in rs w ≡ Some n → is_after r.word w ≡ true) → lookup_in (r ∷ rs) w ≡ Some n → is_after before w ≡ true
    go true q ih f = ap (is_after before) (same_eq w r.word q) ∙ (rows_told before r rs h).0.after
    go false q ih f = after_then before r.word w (rows_told before r rs h).0.after (ih (sym (lookup_past r rs w q) ∙ f))

-- so the word before them is in none, nor is one that comes before the first
not_again : (v : List ℕ) (rs : List Row) → good_rows v rs ≡ true → lookup_in rs v ≡ None
not_again v rs g = go (lookup_in rs v) refl
  where
    go : (m : Option ℕ) → lookup_in rs v ≡ m → lookup_in rs v ≡ None
    go None e = e
    go (Some n) e = absurd (false≢true (sym (after_self v) ∙ known_after v n v rs g e))

pub not_later : (w before : List ℕ) (t : Row) (ts : List Row) → good_rows before (t ∷ ts) ≡ true → is_after w t.word ≡ true → lookup_in (t ∷ ts) w ≡ None
not_later w before t ts g h = not_again w (t ∷ ts) (rows_good w t ts (record { after = h; named = k.0.named; leads = k.0.leads }) k.1)
  where
    k : Told before t × (good_rows t.word ts ≡ true)
    k = rows_told before t ts g

-- a word put in --------------------------------------------------------------------------------------------------------------------------------------

module _ (w : List ℕ) (c : ℕ) (name : is_name w ≡ true) (command : c ≤ last_command) where
  new_told : (before : List ℕ) → is_after before w ≡ true → Told before (row w c)
  new_told before a = record { after = a; named = name; leads = le-leb c last_command command }

  insert_by : (before : List ℕ) (r : Row) (rs : List Row) → Side w r.word → is_after before w ≡ true → good_rows before (r ∷ rs) ≡ true →
      ((b : List ℕ) → is_after b w ≡ true → good_rows b rs ≡ true → good_rows b (insert w c rs) ≡ true) → good_rows before (insert w c (r ∷ rs)) ≡ true
  insert_by before r rs (less e) a g ih =
      let k = rows_told before r rs g in
      let t = rows_good w r rs (record { after = e; named = k.0.named; leads = k.0.leads }) k.1 in
      rw (insert_here r rs w c e) (rows_good before (row w c) (r ∷ rs) (new_told before a) t)
  insert_by before r rs (alike e) a g ih =
      let k = rows_told before r rs g in
      let t : good_rows w rs ≡ true = ap (λ v. good_rows v rs) (same_eq w r.word e) ∙ k.1 in
      rw (insert_same r rs w c e) (rows_good before (row w c) rs (new_told before a) t)
  insert_by before r rs (other e f) a g ih =
      let k = rows_told before r rs g in
      let l = after_either w r.word (name_bytes w name) (name_bytes r.word k.0.named) e f in
      rw (insert_past r rs w c e f) (rows_good before r (insert w c rs) k.0 (ih r.word l k.1))

  insert_rows : (rs : List Row) (before : List ℕ) → is_after before w ≡ true → good_rows before rs ≡ true → good_rows before (insert w c rs) ≡ true
  unfolding insert good_rows
  insert_rows [] before a g = rows_good before (row w c) [] (new_told before a) refl
  insert_rows (r ∷ rs) before a g = insert_by before r rs (side w r.word) a g (insert_rows rs)

-- how many there are then
insert_most : (w : List ℕ) (c : ℕ) (rs : List Row) → length (insert w c rs) ≤ suc (length rs)
unfolding insert
insert_most w c [] = omega arith
insert_most w c (r ∷ rs) = go (side w r.word) (insert_most w c rs)
  where
    go : Side w r.word → length (insert w c rs) ≤ suc (length rs) → length (insert w c (r ∷ rs)) ≤ suc (suc (length rs))
    go (less e) k = omega (arith, ap length (insert_here r rs w c e))
    go (alike e) k = omega (arith, ap length (insert_same r rs w c e))
    go (other e f) k = omega (arith, ap length (insert_past r rs w c e f))

known_length : (w : List ℕ) (c n : ℕ) (before : List ℕ) (rs : List Row) → good_rows before rs ≡ true → lookup_in rs w ≡ Some n → length (insert w c rs) ≡ length rs
unfolding lookup_in
known_length w c n before [] h e = let z : ◌≡◌ {A = ℕ} 0 1 = cc in absurd (omega arith)
known_length w c n before (r ∷ rs) h e = go (side w r.word) (known_length w c n r.word rs (rows_told before r rs h).1)
  where
    go : Side w r.word → (lookup_in rs w ≡ Some n → length (insert w c rs) ≡ length rs) → length (insert w c (r ∷ rs)) ≡ suc (length rs)
    go (less f) ih = let q = not_later w before r rs h f in let z : ◌≡◌ {A = ℕ} 0 1 = cc in absurd (omega arith)
    go (alike f) ih = ap length (insert_same r rs w c f)
    go (other f g) ih = ap length (insert_past r rs w c f g) ∙ ap suc (ih (sym (lookup_past r rs w g) ∙ e))

-- a word that is there is replaced, and one that is not is added where there is room: the table stays good
module _ (most : ℕ) (w : List ℕ) (c : ℕ) (rs : List Row) (name : is_name w ≡ true) (command : c ≤ last_command) (good : good_table most rs ≡ true) where
  good_told : (good_rows [] rs ≡ true) × (leb (length rs) most ≡ true)
  unfolding good_table
  good_told = and_both (good_rows [] rs) (leb (length rs) most) good

  still_good : length (insert w c rs) ≤ most → good_table most (insert w c rs) ≡ true
  unfolding good_table
  still_good l = and_of (insert_rows w c name command rs [] (nothing_before w name) good_told.0) (le-leb (length (insert w c rs)) most l)

  pub insert_new : length rs < most → good_table most (insert w c rs) ≡ true
  insert_new l = still_good (omega (arith, insert_most w c rs))

pub insert_known : (most : ℕ) (w : List ℕ) (c n : ℕ) (rs : List Row) → is_name w ≡ true → c ≤ last_command → good_table most rs ≡ true → lookup_in rs w ≡ Some n →
    good_table most (insert w c rs) ≡ true
insert_known most w c n rs a b h e =
    let k = good_told most w c rs a b h in
    still_good most w c rs a b h (omega (arith, known_length w c n [] rs k.0 e, leb-true (length rs) most k.1))

pub insert_good : (most : ℕ) (w : List ℕ) (c : ℕ) (rs : List Row) → is_name w ≡ true → c ≤ last_command → good_table most rs ≡ true → is_full most rs w ≡ false →
    good_table most (insert w c rs) ≡ true
unfolding is_full
insert_good most w c rs a b h f = go (lookup_in rs w) refl
  where
    go : (m : Option ℕ) → lookup_in rs w ≡ m → good_table most (insert w c rs) ≡ true
    go (Some n) e = insert_known most w c n rs a b h e
    go None e =
        let l : leb most (length rs) ≡ false = rw e at f in
        insert_new most w c rs a b h (leb-false most (length rs) l)

-- a word taken out -----------------------------------------------------------------------------------------------------------------------------------

remove_rows : (w before : List ℕ) (rs : List Row) → good_rows before rs ≡ true → good_rows before (remove w rs) ≡ true
unfolding remove
remove_rows w before [] g = g
remove_rows w before (r ∷ rs) g = go (same w r.word) refl (remove_rows w r.word rs (rows_told before r rs g).1)
  where
    go : (q : Bool) → same w r.word ≡ q → good_rows r.word (remove w rs) ≡ true → good_rows before (remove w (r ∷ rs)) ≡ true
    go true e ih = let k = rows_told before r rs g in rw (remove_here r rs w e) (rows_sooner before r.word rs k.0.after k.1)
    go false e ih = rw (remove_past r rs w e) (rows_good before r (remove w rs) (rows_told before r rs g).0 ih)

remove_most : (w : List ℕ) (rs : List Row) → length (remove w rs) ≤ length rs
unfolding remove
remove_most w [] = omega arith
remove_most w (r ∷ rs) = go (same w r.word) refl (remove_most w rs)
  where
    go : (q : Bool) → same w r.word ≡ q → length (remove w rs) ≤ length rs → length (remove w (r ∷ rs)) ≤ suc (length rs)
    go true e k = omega (arith, ap length (remove_here r rs w e))
    go false e k = omega (arith, ap length (remove_past r rs w e))

pub remove_good : (most : ℕ) (w : List ℕ) (rs : List Row) → good_table most rs ≡ true → good_table most (remove w rs) ≡ true
unfolding good_table
remove_good most w rs h =
    let k = and_both (good_rows [] rs) (leb (length rs) most) h in
    and_of (remove_rows w [] rs k.0) (le-leb (length (remove w rs)) most (omega (arith, remove_most w rs, leb-true (length rs) most k.1)))

-- what a word leads to then --------------------------------------------------------------------------------------------------------------------------

-- of any rows
pub lookup_insert : (w v : List ℕ) (c : ℕ) (rs : List Row) → lookup_in (insert w c rs) v ≡ cond (same v w) (Some c) (lookup_in rs v)
unfolding insert lookup_in
lookup_insert w v c [] = go (same v w) refl
  where
    go : (q : Bool) → same v w ≡ q → lookup_in (row w c ∷ []) v ≡ cond q (Some c) None
    go true e = lookup_here (row w c) [] v e
    go false e = lookup_past (row w c) [] v e
lookup_insert w v c (r ∷ rs) = go (side w r.word) (same v w) refl (lookup_insert w v c rs)
  where
    past : (q : Bool) → same v r.word ≡ q → same w r.word ≡ false → lookup_in (insert w c rs) v ≡ cond (same v w) (Some c) (lookup_in rs v) →
        lookup_in (r ∷ insert w c rs) v ≡ cond (same v w) (Some c) (lookup_in (r ∷ rs) v)
    past true e f ih =
        let n : same v w ≡ false = ap (λ u. same u w) (same_eq v r.word e) ∙ same_back w r.word f in
        rw n (lookup_here r (insert w c rs) v e ∙ sym (lookup_here r rs v e))
    past false e f ih = lookup_past r (insert w c rs) v e ∙ ih ∙ ap (λ m. cond (same v w) (Some c) m) (sym (lookup_past r rs v e))

    go : Side w r.word → (q : Bool) → same v w ≡ q → lookup_in (insert w c rs) v ≡ cond (same v w) (Some c) (lookup_in rs v) →
        lookup_in (insert w c (r ∷ rs)) v ≡ cond (same v w) (Some c) (lookup_in (r ∷ rs) v)
    go (less e) true q ih = rw (insert_here r rs w c e, q) (lookup_here (row w c) (r ∷ rs) v q)
    go (less e) false q ih = rw (insert_here r rs w c e, q) (lookup_past (row w c) (r ∷ rs) v q)
    go (alike e) true q ih = rw (insert_same r rs w c e, q) (lookup_here (row w c) rs v q)
    go (alike e) false q ih =
        let p : same v r.word ≡ false = ap (same v) (sym (same_eq w r.word e)) ∙ q in
        rw (insert_same r rs w c e, q) (lookup_past (row w c) rs v q ∙ sym (lookup_past r rs v p))
    go (other e f) t q ih = ap (λ u. lookup_in u v) (insert_past r rs w c e f) ∙ past (same v r.word) refl f ih

-- of good rows
pub lookup_remove : (w v before : List ℕ) (rs : List Row) → good_rows before rs ≡ true → lookup_in (remove w rs) v ≡ cond (same v w) None (lookup_in rs v)
unfolding remove lookup_in
lookup_remove w v before [] g = go (same v w)
  where
    go : (q : Bool) → ◌≡◌ {A = Option ℕ} None (cond q None None)
    go true = refl
    go false = refl
lookup_remove w v before (r ∷ rs) g = go (same w r.word) refl (same v r.word) refl (lookup_remove w v r.word rs (rows_told before r rs g).1)
  where
    go : (p : Bool) → same w r.word ≡ p → (q : Bool) → same v r.word ≡ q → lookup_in (remove w rs) v ≡ cond (same v w) None (lookup_in rs v) →
        lookup_in (remove w (r ∷ rs)) v ≡ cond (same v w) None (lookup_in (r ∷ rs) v)
    go true p true q ih =
        let e : v ≡ w = same_eq v r.word q ∙ sym (same_eq w r.word p) in
        let s : same v w ≡ true = ap (same v) (sym e) ∙ same_refl v in
        rw (remove_here r rs w p, s) (ap (lookup_in rs) (same_eq v r.word q) ∙ not_again r.word rs (rows_told before r rs g).1)
    go true p false q ih =
        let s : same v w ≡ false = ap (same v) (same_eq w r.word p) ∙ q in
        rw (remove_here r rs w p, s) (sym (lookup_past r rs v q))
    go false p true q ih =
        let s : same v w ≡ false = ap (λ u. same u w) (same_eq v r.word q) ∙ same_back w r.word p in
        rw (remove_past r rs w p, s) (lookup_here r (remove w rs) v q ∙ sym (lookup_here r rs v q))
    go false p false q ih =
        ap (λ u. lookup_in u v) (remove_past r rs w p) ∙ lookup_past r (remove w rs) v q ∙ ih ∙ ap (λ m. cond (same v w) None m) (sym (lookup_past r rs v q))

-- rows in which every word leads to the same ---------------------------------------------------------------------------------------------------------

first_leads : (r : Row) (rs : List Row) → lookup_in (r ∷ rs) r.word ≡ Some r.command
first_leads r rs = lookup_here r rs r.word (same_refl r.word)

module _ (r t : Row) (rs ts : List Row) (h : (w : List ℕ) → lookup_in (r ∷ rs) w ≡ lookup_in (t ∷ ts) w) (e : r.word ≡ t.word) where
  same_command : r.command ≡ t.command
  same_command =
      let q : Some r.command ≡ Some t.command =
      sym (first_leads r rs) ∙ h r.word ∙ ap (λ w. lookup_in (t ∷ ts) w) e ∙ first_leads t ts in
      cc

  same_rest : good_rows r.word rs ≡ true → good_rows t.word ts ≡ true → (w : List ℕ) → lookup_in rs w ≡ lookup_in ts w
  same_rest g k w = go (same w r.word) refl
    where
      go : (q : Bool) → same w r.word ≡ q → lookup_in rs w ≡ lookup_in ts w
      go true q =
          let x : w ≡ r.word = same_eq w r.word q in
          ap (lookup_in rs) x ∙ not_again r.word rs g ∙ sym (ap (lookup_in ts) (x ∙ e) ∙ not_again t.word ts k)
      go false q = sym (lookup_past r rs w q) ∙ h w ∙ lookup_past t ts w (ap (same w) (sym e) ∙ q)

  same_row : r ≡ t
  same_row = ap (λ w. record { word = w; command = r.command }) e ∙ ap (λ (c : ℕ). record { word = t.word; command = c }) same_command

pub same_rows : (before : List ℕ) (rs ts : List Row) → good_rows before rs ≡ true → good_rows before ts ≡ true → ((w : List ℕ) → lookup_in rs w ≡ lookup_in ts w) → rs ≡ ts
unfolding lookup_in
same_rows before [] [] g k h = refl
same_rows before [] (t ∷ ts) g k h =
    let x : None ≡ Some t.command = h t.word ∙ first_leads t ts in
    let z : ◌≡◌ {A = ℕ} 0 1 = cc in
    absurd (omega arith)
same_rows before (r ∷ rs) [] g k h =
    let x : Some r.command ≡ None = sym (first_leads r rs) ∙ h r.word in
    let z : ◌≡◌ {A = ℕ} 0 1 = cc in
    absurd (omega arith)
same_rows before (r ∷ rs) (t ∷ ts) g k h = go (side r.word t.word) (same_rows r.word rs ts)
  where
    a : Told before r × (good_rows r.word rs ≡ true)
    a = rows_told before r rs g

    b : Told before t × (good_rows t.word ts ≡ true)
    b = rows_told before t ts k

    go : Side r.word t.word → (good_rows r.word rs ≡ true → good_rows r.word ts ≡ true → ((w : List ℕ) → lookup_in rs w ≡ lookup_in ts w) → rs ≡ ts) →
        r ∷ rs ≡ t ∷ ts
    go (less e) ih =
        let x : None ≡ Some r.command = sym (not_later r.word before t ts k e) ∙ sym (h r.word) ∙ first_leads r rs in
        let z : ◌≡◌ {A = ℕ} 0 1 = cc in
        absurd (omega arith)
    go (other e f) ih =
        let l = after_either r.word t.word (name_bytes r.word a.0.named) (name_bytes t.word b.0.named) e f in
        let x : None ≡ Some t.command = sym (not_later t.word before r rs g l) ∙ h t.word ∙ first_leads t ts in
        let z : ◌≡◌ {A = ℕ} 0 1 = cc in
        absurd (omega arith)
    go (alike o) ih =
        let e = same_eq r.word t.word o in
        ap (λ x. x ∷ rs) (same_row r t rs ts h e)
        ∙ ap (λ x. t ∷ x) (ih a.1 (ap (λ v. good_rows v ts) e ∙ b.1) (same_rest r t rs ts h e a.1 b.1))
