-- What is said of the spellings as a whole: there are 68, each once and in byte order; they are the shipped words, and each leads to the
-- command that stands beside it.
-- Assumes nothing.
use Rattle.std.specs.Prelude.{◌≡◌, refl, Bool, true, false, cond, ◌&&◌, List, [], ◌∷◌, ℕ, suc, ◌+◌, ◌<◌, ◌≤◌, eqb, ltb, length, drop, Option, Some, None}
use Rattle.std.proofs.Common.{sym, ◌∙◌, ap, add-one, arith, eq-eqb, ne_eqb, le-ltb}
use Rattle.std.proofs.lemmas.Bool.{false≢true}
use Rattle.std.proofs.Math.ListN.{drop_of_length-le}
use Rattle.std.proofs.Math.Seq.{drop-cons}
use Rattle.scan.specs.Scan.{byte_at}
use Rattle.words.specs.Words.{Row, aliases, names, shipped, same, lookup_in, lookup}
use Rattle.words.specs.Order.{is_before}
use Rattle.words.specs.LookupLaws.{same_eq, lookup_here, lookup_past}
use Rattle.spellings.specs.Rows.{row}
use Rattle.spellings.specs.Spellings.{insert_before, in_order, word_of}

-- no word comes before itself
before_self : (w : List ℕ) → is_before w w ≡ false
unfolding is_before
before_self [] = refl
before_self (x ∷ w) = let e : ltb x x ≡ false = le-ltb x x (omega arith) in rw (e, eq-eqb x x refl) (before_self w)

-- what a word leads to once another is inserted
lookup_insert : (w v : List ℕ) (c : ℕ) (rs : List Row) → lookup_in (insert_before w c rs) v ≡ cond (same v w) (Some c) (lookup_in rs v)
unfolding insert_before lookup_in
lookup_insert w v c [] = go (same v w) refl
  where
    go : (b : Bool) → same v w ≡ b → lookup_in (row w c ∷ []) v ≡ cond b (Some c) None
    go true e = lookup_here (row w c) [] v e
    go false e = lookup_past (row w c) [] v e
lookup_insert w v c (r ∷ rs) = go (is_before r.word w) (same w r.word) (same v w) (same v r.word) refl refl refl refl (lookup_insert w v c rs)
  where
    go : (b s p q : Bool) → is_before r.word w ≡ b → same w r.word ≡ s → same v w ≡ p → same v r.word ≡ q →
        lookup_in (insert_before w c rs) v ≡ cond (same v w) (Some c) (lookup_in rs v) →
        lookup_in (cond b (r ∷ insert_before w c rs) (row w c ∷ cond s rs (r ∷ rs))) v ≡ cond p (Some c) (lookup_in (r ∷ rs) v)
    go true s true true e f g h ih = absurd (false≢true (sym (before_self w) ∙ ap (λ u. is_before u w) (sym (same_eq v w g) ∙ same_eq v r.word h) ∙ e))
    go true s false true e f g h ih = lookup_here r (insert_before w c rs) v h ∙ sym (lookup_here r rs v h)
    go true s true false e f g h ih = lookup_past r (insert_before w c rs) v h ∙ ih ∙ rw g
    go true s false false e f g h ih = lookup_past r (insert_before w c rs) v h ∙ ih ∙ rw g (sym (lookup_past r rs v h))
    go false s true q e f g h ih = lookup_here (row w c) (cond s rs (r ∷ rs)) v g
    go false true false q e f g h ih = lookup_past (row w c) rs v g ∙ sym (lookup_past r rs v (ap (same v) (sym (same_eq w r.word f)) ∙ g))
    go false false false q e f g h ih = lookup_past (row w c) (r ∷ rs) v g

-- rows in order have the same words, and lead them to the same commands
pub in_order_lookup : (rs : List Row) (w : List ℕ) → lookup_in (in_order rs) w ≡ lookup_in rs w
unfolding in_order lookup_in
in_order_lookup [] w = refl
in_order_lookup (r ∷ rs) w =
    lookup_insert r.word w r.command (in_order rs) ∙ (ap (cond (same w r.word) (Some r.command)) (in_order_lookup rs w) ∙ go (same w r.word))
  where
    go : (b : Bool) → cond b (Some r.command) (lookup_in rs w) ≡ elim b as (λ x. (Option ℕ)) [ true ↦ Some r.command | false ↦ lookup_in rs w ]
    go true = refl
    go false = refl

-- the word of a command, by the first row
pub word_none : (n : ℕ) → word_of [] n ≡ []
unfolding word_of
word_none n = refl

pub word_here : (r : Row) (rs : List Row) (n : ℕ) → r.command ≡ n → word_of (r ∷ rs) n ≡ r.word
unfolding word_of
word_here r rs n e = rw (eq-eqb r.command n e, word_of)

pub word_past : (r : Row) (rs : List Row) (n : ℕ) → (r.command ≡ n → ⊥) → word_of (r ∷ rs) n ≡ word_of rs n
unfolding word_of
word_past r rs n e = rw (ne_eqb r.command n e, word_of)

-- words, byte by byte ---------------------------------------------------------------------------------------------------------------------------

-- words of two lengths are not the same
pub same_lengths : (v w : List ℕ) → (length v ≡ length w → ⊥) → same v w ≡ false
unfolding same
same_lengths [] [] h = absurd (h refl)
same_lengths [] (y ∷ w) h = refl
same_lengths (x ∷ v) [] h = refl
same_lengths (x ∷ v) (y ∷ w) h = go (eqb x y) (same_lengths v w (λ e. h (ap suc e)))
  where
    go : (b : Bool) → same v w ≡ false → (b && same v w) ≡ false
    go true r = r
    go false r = refl

module _ (v w : List ℕ) (i : ℕ) where
  -- the bytes at i decide, or those behind them
  pub same_step : i < length v → i < length w → same (drop i v) (drop i w) ≡ (eqb (byte_at v i) (byte_at w i) && same (drop (i + 1) v) (drop (i + 1) w))
  unfolding same
  same_step h k = rw (drop-cons v i 0 h, drop-cons w i 0 k, add-one)

  pub same_end : length v ≤ i → length w ≤ i → same (drop i v) (drop i w) ≡ true
  unfolding same
  same_end h k = rw (drop_of_length-le v h, drop_of_length-le w k)

pub lookup_none : (w : List ℕ) → lookup_in [] w ≡ None
unfolding lookup_in
lookup_none w = refl

-- the spellings as a whole ------------------------------------------------------------------------------------------------------------------------

-- each word before the one behind it
abbrev pub ascending : List Row → Bool
ascending [] = true
ascending (r ∷ []) = true
ascending (r ∷ s ∷ rs) = is_before r.word s.word && ascending (s ∷ rs)

pub spellings_68 : length (in_order shipped) ≡ 68
unfolding in_order insert_before is_before same shipped aliases names
spellings_68 = refl

pub spellings_ascend : ascending (in_order shipped) ≡ true
unfolding in_order insert_before is_before same shipped aliases names
spellings_ascend = refl

abbrev leads : Option ℕ → ℕ → Bool
leads (Some c) d = eqb c d
leads None d = false

abbrev pub all_lead : List Row → Bool
all_lead [] = true
all_lead (r ∷ rs) = leads (lookup r.word) r.command && all_lead rs

pub spellings_lead : all_lead (in_order shipped) ≡ true
unfolding in_order insert_before is_before shipped aliases names lookup lookup_in same
spellings_lead = refl

-- each of the 28 commands has its name
abbrev pub named : List Row → ℕ → Bool
named [] n = true
named (r ∷ rs) n = eqb r.command n && same (word_of names n) r.word && named rs (suc n)

pub names_named : named names 0 ≡ true
unfolding names word_of same
names_named = refl
