-- Laws of the order of words, and of one row and those behind it: where a word goes, and what is left without it.
-- Assumes nothing.
use Rattle.std.specs.Prelude.{◌≡◌, refl, Bool, true, ◌&&◌, List, ◌∷◌, ◌⊎◌, ℕ, ◌<◌, eqb, ltb, length}
use Rattle.std.proofs.Common.{sym, ◌∙◌, inl, inr, arith, eqb-true, ltb-true, ltb-false, lt-ltb}
use Rattle.std.proofs.Math.Path.{ap}
use Rattle.std.proofs.Math.Bool.{false}
use Rattle.std.proofs.lemmas.Bool.{false≢true, eqb-false}
use Rattle.scan.specs.Number.{number_of}
use Rattle.words.specs.Words.{Row, same}
use Rattle.words.specs.LookupLaws.{same_eq, same_refl}
use Rattle.fields.specs.Field.{Bytes}
use Rattle.fields.specs.BoolLaws.{and_both}
use Rattle.tables.specs.Table.{is_after}
use Rattle.tables.specs.TailLaws.{number_same, after_is}
use Rattle.placing.specs.Change.{row, insert, remove}
use Rattle.tables.specs.OrderLaws.{after_longer}

-- the order ------------------------------------------------------------------------------------------------------------------------------------------

same_else : (v w : List ℕ) → (v ≡ w → ⊥) → same v w ≡ false
same_else v w n = go (same v w) refl
  where
    go : (q : Bool) → same v w ≡ q → same v w ≡ false
    go true e = absurd (n (same_eq v w e))
    go false e = e

pub same_back : (v w : List ℕ) → same v w ≡ false → same w v ≡ false
same_back v w h = same_else w v (λ e. false≢true (sym h ∙ ap (same v) e ∙ same_refl v))

-- what it is to come after: longer, or as long and above
after_told : (v w : List ℕ) → is_after v w ≡ true → (length v < length w) ⊎ ((length v ≡ length w) × (number_of v < number_of w))
unfolding is_after
after_told v w h = go (ltb (length v) (length w)) refl
  where
    go : (q : Bool) → ltb (length v) (length w) ≡ q → (length v < length w) ⊎ ((length v ≡ length w) × (number_of v < number_of w))
    go true e = inl (ltb-true (length v) (length w) e)
    go false e =
        let k : eqb (length v) (length w) && ltb (number_of v) (number_of w) ≡ true = rw e at h in
        let p = and_both (eqb (length v) (length w)) (ltb (number_of v) (number_of w)) k in
        inr (eqb-true (length v) (length w) p.0, ltb-true (number_of v) (number_of w) p.1)

after_above : (v w : List ℕ) → length v ≡ length w → number_of v < number_of w → is_after v w ≡ true
after_above v w e h = after_is v w e ∙ lt-ltb (number_of v) (number_of w) h

-- no word comes before itself, and of two one at most before the other
after_not : (v w : List ℕ) → is_after v w ≡ true → is_after w v ≡ true → ⊥
after_not v w h k = go (after_told v w h) (after_told w v k)
  where
    go : (length v < length w) ⊎ ((length v ≡ length w) × (number_of v < number_of w)) → (length w < length v) ⊎ ((length w ≡ length v) × (number_of w < number_of v)) → ⊥
    go (inl a) (inl b) = omega arith
    go (inl a) (inr b) = omega arith
    go (inr a) (inl b) = omega arith
    go (inr a) (inr b) = omega arith

pub after_then : (u v w : List ℕ) → is_after u v ≡ true → is_after v w ≡ true → is_after u w ≡ true
after_then u v w h k = go (after_told u v h) (after_told v w k)
  where
    go : (length u < length v) ⊎ ((length u ≡ length v) × (number_of u < number_of v)) → (length v < length w) ⊎ ((length v ≡ length w) × (number_of v < number_of w)) → is_after u w ≡ true
    go (inl a) (inl b) = after_longer u w (omega arith)
    go (inl a) (inr b) = after_longer u w (omega arith)
    go (inr a) (inl b) = after_longer u w (omega arith)
    go (inr a) (inr b) = after_above u w (omega arith) (omega arith)

after_false : (v w : List ℕ) → (is_after v w ≡ true → ⊥) → is_after v w ≡ false
after_false v w n = go (is_after v w) refl
  where
    go : (q : Bool) → is_after v w ≡ q → is_after v w ≡ false
    go true e = absurd (n e)
    go false e = e

pub after_self : (w : List ℕ) → is_after w w ≡ false
after_self w = after_false w w (λ h. after_not w w h h)

pub after_back : (v w : List ℕ) → is_after v w ≡ true → is_after w v ≡ false
after_back v w h = after_false w v (λ k. after_not v w h k)

pub after_other : (v w : List ℕ) → is_after v w ≡ true → same w v ≡ false
after_other v w h = same_else w v (λ e. let k : is_after v v ≡ true = ap (is_after v) (sym e) ∙ h in after_not v v k k)

-- of two words of bytes that are not the same one comes before the other
pub after_either : (v w : List ℕ) → Bytes v → Bytes w → is_after v w ≡ false → same v w ≡ false → is_after w v ≡ true
after_either v w p q h k = go (ltb (length w) (length v)) refl (eqb (length w) (length v)) refl (ltb (number_of w) (number_of v)) refl
  where
    absent : {A : Type 0} → is_after v w ≡ true → A
    absent e = absurd (false≢true (sym h ∙ e))

    go : (x : Bool) → ltb (length w) (length v) ≡ x → (y : Bool) → eqb (length w) (length v) ≡ y → (z : Bool) → ltb (number_of w) (number_of v) ≡ z → is_after w v ≡ true
    go true a y b z d = after_longer w v (ltb-true (length w) (length v) a)
    go false a false b z d = absent (after_longer v w (omega (arith, ltb-false (length w) (length v) a, eqb-false (length w) (length v) b)))
    go false a true b true d = after_above w v (eqb-true (length w) (length v) b) (ltb-true (number_of w) (number_of v) d)
    go false a true b false d = low (ltb (number_of v) (number_of w)) refl
      where
        l : length v ≡ length w
        l = sym (eqb-true (length w) (length v) b)

        low : (t : Bool) → ltb (number_of v) (number_of w) ≡ t → is_after w v ≡ true
        low true e = absent (after_above v w l (ltb-true (number_of v) (number_of w) e))
        low false e =
            let n : number_of v ≡ number_of w = omega (arith, ltb-false (number_of v) (number_of w) e, ltb-false (number_of w) (number_of v) d) in
            let s : same v w ≡ true = ap (same v) (sym (number_same v w p q l n)) ∙ same_refl v in
            absurd (false≢true (sym k ∙ s))

-- a word among rows ----------------------------------------------------------------------------------------------------------------------------------

module _ (r : Row) (rs : List Row) (w : List ℕ) where
  pub insert_here : (c : ℕ) → is_after w r.word ≡ true → insert w c (r ∷ rs) ≡ row w c ∷ r ∷ rs
  unfolding insert
  insert_here c h = rw h

  pub insert_same : (c : ℕ) → same w r.word ≡ true → insert w c (r ∷ rs) ≡ row w c ∷ rs
  unfolding insert
  insert_same c h =
      let e : is_after w r.word ≡ false = ap (is_after w) (sym (same_eq w r.word h)) ∙ after_self w in
      rw (e, h)

  pub insert_past : (c : ℕ) → is_after w r.word ≡ false → same w r.word ≡ false → insert w c (r ∷ rs) ≡ r ∷ insert w c rs
  unfolding insert
  insert_past c h k = rw (h, k)

  pub remove_here : same w r.word ≡ true → remove w (r ∷ rs) ≡ rs
  unfolding remove
  remove_here h = rw h

  pub remove_past : same w r.word ≡ false → remove w (r ∷ rs) ≡ r ∷ remove w rs
  unfolding remove
  remove_past h = rw h

-- a word comes before another, is the same, or neither
pub data Side (w v : List ℕ) : Type 0 where
  less : is_after w v ≡ true → Side w v
  alike : same w v ≡ true → Side w v
  other : is_after w v ≡ false → same w v ≡ false → Side w v

pub side : (w v : List ℕ) → Side w v
side w v = go (is_after w v) refl (same w v) refl
  where
    go : (x : Bool) → is_after w v ≡ x → (y : Bool) → same w v ≡ y → Side w v
    go true h y k = less h
    go false h true k = alike k
    go false h false k = other h k
