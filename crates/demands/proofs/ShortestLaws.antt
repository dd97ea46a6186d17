-- The computed length is that of the shortest word that names a prefix; as shipped it is 3; and with the aliases of any session `!`
-- names no prefix. Document 01, "For demand 3": "a word names a prefix if lookup in that session leads it to one".
-- Assumes nothing.
use Rattle.std.specs.Prelude.{◌≡◌, Bool, true, false, ◌⊎◌, ℕ, ◌≤◌, min, leb, length, Some}
use Rattle.std.proofs.Math.Path.{refl, subst}
use Rattle.std.proofs.Common.{sym, ◌∙◌, ap, inl, inr, arith, leb-true, leb-false}
use Rattle.std.proofs.lemmas.Bool.{false≢true}
use mathlib.Core.List.{List, [], ◌∷◌}
use Rattle.std.proofs.Math.Option.{Option, none, some}
use Rattle.scan.specs.Bytes.{is_word}
use Rattle.scan.specs.Scan.{run_at, run_from}
use Rattle.words.specs.Words.{Row, aliases, names, shipped, table_with, same, lookup_in}
use Rattle.words.specs.LookupLaws.{same_eq, lookup_past}
use Rattle.tables.specs.Table.{is_name}
use Rattle.commands.specs.Handle.{role_of, IsPrefix}
use Rattle.commands.specs.Run.{role_at, role_named}
use Rattle.commands.specs.declared.next.Role.{Role}
use Rattle.demands.specs.Shortest.{is_prefix, names_prefix, smaller, shortest_of, shortest, Aliases}
use Rattle.demands.specs.Statement.{NamesPrefix, Shortest}

-- as shipped
pub shortest_shipped : shortest shipped ≡ some 3
unfolding shortest shortest_of names_prefix role_named role_of shipped aliases names lookup_in same
shortest_shipped = refl

-- naming a prefix, as a test -------------------------------------------------------------------------------------------------------------

is_true : (r : Role) → IsPrefix r → is_prefix r ≡ true
is_true Role.Tab h = refl
is_true (Role.Axis a) h = refl
is_true (Role.Side d) h = refl
is_true Role.Action h = absurd h

of_true : (r : Role) → is_prefix r ≡ true → IsPrefix r
of_true Role.Tab h = tt
of_true (Role.Axis a) h = tt
of_true (Role.Side d) h = tt
of_true Role.Action h = absurd (false≢true h)

module _ (table : List Row) where
  tested : (w : List ℕ) → NamesPrefix table w → names_prefix table w ≡ true
  unfolding names_prefix
  tested w h = is_true (role_named table w) h

  named : (w : List ℕ) → names_prefix table w ≡ true → NamesPrefix table w
  unfolding names_prefix
  named w h = of_true (role_named table w) h

-- what is found stands in the table ----------------------------------------------------------------------------------------------------------

abbrev In : List ℕ → List Row → Type 0
In w [] = ⊥
In w (r ∷ rs) = (w ≡ r.word) ⊎ In w rs

find_in : (rs : List Row) (w : List ℕ) → is_prefix (role_at (lookup_in rs w)) ≡ true → In w rs
unfolding lookup_in
find_in [] w e = absurd (false≢true e)
find_in (r ∷ rs) w e = go (same w r.word) refl (λ k. find_in rs w k)
  where
    go : (b : Bool) → same w r.word ≡ b → (is_prefix (role_at (lookup_in rs w)) ≡ true → In w rs) → (w ≡ r.word) ⊎ In w rs
    go true m ih = inl (same_eq w r.word m)
    go false m ih = inr (ih (ap (λ n. is_prefix (role_at n)) (sym (lookup_past r rs w m)) ∙ e))

named_in : (table : List Row) (w : List ℕ) → names_prefix table w ≡ true → In w table
unfolding names_prefix role_named
named_in table [] e = absurd (false≢true e)
named_in table (x ∷ w) e = find_in table (x ∷ w) e

-- the shortest -------------------------------------------------------------------------------------------------------------------------------

min_is : (a b : ℕ) → (min a b ≡ a) ⊎ (min a b ≡ b)
min_is a b = go (leb a b) refl
  where
    go : (t : Bool) → leb a b ≡ t → (min a b ≡ a) ⊎ (min a b ≡ b)
    go true e = inl (omega (arith, leb-true a b e))
    go false e = inr (omega (arith, leb-false a b e))

module _ (f : List ℕ → Bool) where
  -- a word that passes is as long at least; without a length none passes
  abbrev AtLeast : Option ℕ → List ℕ → Type 0
  AtLeast none w = f w ≡ false
  AtLeast (some m) w = f w ≡ true → m ≤ length w

  least_first : (w : List ℕ) (b : Bool) (o : Option ℕ) → f w ≡ b → AtLeast (smaller b (length w) o) w
  least_first w false none e = e
  least_first w false (some m) e = λ k. absurd (false≢true (sym e ∙ k))
  least_first w true none e = λ k. omega arith
  least_first w true (some m) e = λ k. omega arith

  least_rest : (n : ℕ) (b : Bool) (o : Option ℕ) (w : List ℕ) → AtLeast o w → AtLeast (smaller b n o) w
  least_rest n false o w h = h
  least_rest n true none w h = λ k. absurd (false≢true (sym h ∙ k))
  least_rest n true (some m) w h = λ k. let i = h k in omega arith

  at_least : (rs : List Row) (w : List ℕ) → In w rs → AtLeast (shortest_of f rs) w
  unfolding shortest_of
  at_least [] w h = absurd h
  at_least (r ∷ rs) w (inl e) =
      subst (AtLeast (smaller (f r.word) (length r.word) (shortest_of f rs))) (sym e) (least_first r.word (f r.word) (shortest_of f rs) refl)
  at_least (r ∷ rs) w (inr h) = least_rest (length r.word) (f r.word) (shortest_of f rs) w (at_least rs w h)

  -- and one is as long
  abbrev Reached : Option ℕ → Type 0
  Reached none = Unit {0}
  Reached (some m) = (w : List ℕ) × (f w ≡ true) × (length w ≡ m)

  reached_first : (w : List ℕ) (b : Bool) (o : Option ℕ) → f w ≡ b → Reached o → Reached (smaller b (length w) o)
  reached_first w false o e h = h
  reached_first w true none e h = (w, e, refl)
  reached_first w true (some m) e h = go (min_is (length w) m)
    where
      go : (min (length w) m ≡ length w) ⊎ (min (length w) m ≡ m) → Reached (some (min (length w) m))
      go (inl q) = (w, e, omega arith)
      go (inr q) = (h.0, h.1, omega (arith, h.2))

  reached : (rs : List Row) → Reached (shortest_of f rs)
  unfolding shortest_of
  reached [] = tt
  reached (r ∷ rs) = reached_first r.word (f r.word) (shortest_of f rs) refl (reached rs)

module _ (table : List Row) where
  least_named : (w : List ℕ) → names_prefix table w ≡ true → AtLeast (names_prefix table) (shortest table) w
  unfolding shortest
  least_named w h = at_least (names_prefix table) table w (named_in table w h)

  reached_named : Reached (names_prefix table) (shortest table)
  unfolding shortest
  reached_named = reached (names_prefix table) table

  pub shortest_none : shortest table ≡ none → (w : List ℕ) → NamesPrefix table w → ⊥
  shortest_none e w h =
      let k = tested table w h in
      let q : names_prefix table w ≡ false = subst (λ o. AtLeast (names_prefix table) o w) e (least_named w k) in
      false≢true (sym q ∙ k)

  pub shortest_some : (m : ℕ) → shortest table ≡ some m → Shortest table m
  shortest_some m e =
      let r : Reached (names_prefix table) (some m) = subst (Reached (names_prefix table)) e reached_named in
      record {
        a_word = r.0;
        names = named table r.0 r.1;
        its_length = r.2;
        least = λ w h. subst (λ o. AtLeast (names_prefix table) o w) e (least_named w (tested table w h)) (tested table w h);
      }

-- `!` names no prefix ------------------------------------------------------------------------------------------------------------------------

-- no alias is spelled so
alias_bang : (w : List ℕ) → is_name w ≡ true → same (0x21 ∷ []) w ≡ false
unfolding is_name run_at run_from is_word
alias_bang w h = go (same (0x21 ∷ []) w) refl
  where
    go : (b : Bool) → same (0x21 ∷ []) w ≡ b → b ≡ false
    go true e = absurd (false≢true (ap is_name (same_eq (0x21 ∷ []) w e) ∙ h))
    go false e = refl

bang_lookup : (added : List Row) → Aliases added → lookup_in (table_with added) (0x21 ∷ []) ≡ lookup_in shipped (0x21 ∷ [])
bang_lookup [] h = refl
bang_lookup (r ∷ rs) h = lookup_past r (table_with rs) (0x21 ∷ []) (alias_bang r.word h.0) ∙ bang_lookup rs h.1

-- and the shipped `!` is none
shipped_bang : lookup_in shipped (0x21 ∷ []) ≡ Some 0
unfolding shipped aliases names lookup_in same
shipped_bang = refl

pub bang_none : (added : List Row) → Aliases added → NamesPrefix (table_with added) (0x21 ∷ []) → ⊥
unfolding role_named role_of
bang_none added h k = subst (λ n. IsPrefix (role_at n)) (bang_lookup added h ∙ shipped_bang) k
