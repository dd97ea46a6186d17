-- UTF-8 text that is parted: a part between two places that cut no character is UTF-8, and no place before or behind an ASCII byte cuts one.
-- Look for `part_utf8`, `ascii_whole`. Assumes nothing.
use Rattle.std.specs.Prelude.{◌≡◌, refl, Bool, true, false, cond, List, [], ◌∷◌, ◌++◌, ℕ, ◌+◌, ◌-◌, ◌<◌, ◌≤◌, eqb, leb, length, take, drop}
use Rattle.std.proofs.Common.{◌∙◌, sym, ap, subst, arith, take-append-drop, leb-true, le-leb}
use Rattle.std.proofs.lemmas.Bool.{false≢true, lt-leb}
use Rattle.scan.specs.Bytes.{within}
use Rattle.scan.specs.Scan.{byte_at, part_of}
use Rattle.scan.specs.RunLaws.{and_left, and_right, drop_step}
use Rattle.utf8.specs.Utf8.{Pending, Step, followers, lowest, highest, utf8_step, utf8_from, utf8_at, whole, is_utf8}
use Rattle.utf8.specs.Utf8Laws.{next_step, bad_step, utf8_end}
use Rattle.scanner.specs.TokensLaws.{part_drop}

-- what must follow in a sequence is a byte from 0x80 up to 0xBF
pub record Follows (q : Pending) : Type 0 where
  pub least : 0x80 ≤ q.low
  pub most : q.high ≤ 0xBF

first_follows : (b : ℕ) → Follows (record { need = followers b; low = lowest b; high = highest b })
unfolding lowest highest
first_follows b = record { least = low (eqb b 0xE0) (eqb b 0xF0); most = high (eqb b 0xED) (eqb b 0xF4) }
  where
    low : (c d : Bool) → 0x80 ≤ cond c 0xA0 (cond d 0x90 0x80)
    low true d = omega arith
    low false true = omega arith
    low false false = omega arith

    high : (c d : Bool) → cond c 0x9F (cond d 0x8F 0xBF) ≤ 0xBF
    high true d = omega arith
    high false true = omega arith
    high false false = omega arith

step_follows : (q : Pending) (b : ℕ) (r : Pending) → utf8_step q b ≡ Step.next r → Follows r
unfolding utf8_step
step_follows q b r h = go (eqb q.need 0) (eqb (followers b) 4) (within q.low q.high b) h
  where
    x : Pending
    x = record { need = followers b; low = lowest b; high = highest b }

    y : Pending
    y = record { need = q.need - 1; low = 0x80; high = 0xBF }

    go : (c d e : Bool) → cond c (cond d Step.bad (Step.next x)) (cond e (Step.next y) Step.bad) ≡ Step.next r → Follows r
    go true true e k = let z : ◌≡◌ {A = ℕ} 0 1 = cc in absurd (omega arith)
    go true false e k = let f : x ≡ r = cc in subst Follows f (first_follows b)
    go false d true k = let f : y ≡ r = cc in subst Follows f (record { least = omega arith; most = omega arith })
    go false d false k = let z : ◌≡◌ {A = ℕ} 0 1 = cc in absurd (omega arith)

-- such a byte starts nothing
follower_bad : (b : ℕ) → 0x80 ≤ b → b ≤ 0xBF → utf8_step whole b ≡ Step.bad
unfolding utf8_step followers
follower_bad b l h =
    simp (
      lt-leb b 0x7F (omega arith),
      le-leb 0x00 b (omega arith),
      lt-leb 0xC2 b (omega arith),
      lt-leb 0xE0 b (omega arith),
      lt-leb 0xF0 b (omega arith),
    )

-- a byte that may not follow
step_off : (q : Pending) (b : ℕ) → eqb q.need 0 ≡ false → within q.low q.high b ≡ false → utf8_step q b ≡ Step.bad
unfolding utf8_step
step_off q b m n = rw (m, n)

-- a sequence that goes on with b cannot do so with a byte that may not stand there
never : (q : Pending) (b : ℕ) (bs : List ℕ) → utf8_step q b ≡ Step.bad → utf8_from q (b ∷ bs) ≡ true → ⊥
never q b bs k e = false≢true (sym (bad_step q b bs k) ∙ e)

-- parts --------------------------------------------------------------------------------------------------------------------------------

-- what goes on with a sequence and also starts with one has nothing left of the first
meets : (q : Pending) (ys : List ℕ) → Follows q → utf8_from q ys ≡ true → utf8_from whole ys ≡ true → eqb q.need 0 ≡ true
unfolding utf8_from
meets q [] f e w = e
meets q (b ∷ bs) f e w = go (eqb q.need 0) (within q.low q.high b) refl refl
  where
    go : (c d : Bool) → eqb q.need 0 ≡ c → within q.low q.high b ≡ d → c ≡ true
    go true d m n = refl
    go false true m n =
        let l = leb-true q.low b (and_left (leb q.low b) (leb b q.high) n) in
        let h = leb-true b q.high (and_right (leb q.low b) (leb b q.high) n) in
        absurd (never whole b bs (follower_bad b (omega (arith, f.least)) (omega (arith, f.most))) w)
    go false false m n = absurd (never q b bs (step_off q b m n) e)

-- so what stands before whole sequences is whole, too
front : (q : Pending) (xs ys : List ℕ) → Follows q → utf8_from q (xs ++ ys) ≡ true → utf8_from whole ys ≡ true → utf8_from q xs ≡ true
unfolding utf8_from
front q [] ys f e w = meets q ys f e w
front q (b ∷ bs) ys f e w = go (utf8_step q b) refl (λ r. front r bs ys)
  where
    go : (t : Step) → utf8_step q b ≡ t → ((r : Pending) → Follows r → utf8_from r (bs ++ ys) ≡ true → utf8_from whole ys ≡ true → utf8_from r bs ≡ true) →
        utf8_from q (b ∷ bs) ≡ true
    go (Step.next r) k ih = next_step q r b bs k ∙ ih r (step_follows q b r k) (sym (next_step q r b (bs ++ ys) k) ∙ e) w
    go Step.bad k ih = absurd (never q b (bs ++ ys) k e)

whole_follows : Follows whole
whole_follows = record { least = omega arith; most = omega arith }

-- a part of s between two places that cut no character
pub part_utf8 : (s : List ℕ) (i j : ℕ) → i ≤ j → utf8_at whole s i ≡ true → utf8_at whole s j ≡ true → is_utf8 (part_of s i j) ≡ true
unfolding is_utf8 utf8_at
part_utf8 s i j h a b = front whole (part_of s i j) (drop j s) whole_follows (ap (utf8_from whole) (part_drop s i j h) ∙ a) b

-- the end cuts none
pub end_whole : (s : List ℕ) (i : ℕ) → length s ≤ i → utf8_at whole s i ≡ true
end_whole s i h = utf8_end whole s i h

-- ASCII bytes ----------------------------------------------------------------------------------------------------------------------------

-- where nothing must follow, the state is whole
step_none : (q : Pending) (b : ℕ) → eqb q.need 0 ≡ true → utf8_step q b ≡ utf8_step whole b
unfolding utf8_step
step_none q b m = rw m

none_same : (q : Pending) (b : ℕ) (bs : List ℕ) → eqb q.need 0 ≡ true → utf8_from whole (b ∷ bs) ≡ utf8_from q (b ∷ bs)
none_same q b bs m = go (utf8_step whole b) refl
  where
    go : (t : Step) → utf8_step whole b ≡ t → utf8_from whole (b ∷ bs) ≡ utf8_from q (b ∷ bs)
    go (Step.next r) k = next_step whole r b bs k ∙ sym (next_step q r b bs (step_none q b m ∙ k))
    go Step.bad k = bad_step whole b bs k ∙ sym (bad_step q b bs (step_none q b m ∙ k))

-- before an ASCII byte a sequence ends
back : (q : Pending) (xs : List ℕ) (b : ℕ) (ys : List ℕ) → Follows q → b < 0x80 → utf8_from q (xs ++ b ∷ ys) ≡ true → utf8_from whole (b ∷ ys) ≡ true
back q [] b ys f l e = go (eqb q.need 0) refl
  where
    go : (c : Bool) → eqb q.need 0 ≡ c → utf8_from whole (b ∷ ys) ≡ true
    go true m = none_same q b ys m ∙ e
    go false m = absurd (never q b ys (step_off q b m (rw (lt-leb q.low b (omega (arith, f.least))))) e)
back q (x ∷ xs) b ys f l e = go (utf8_step q x) refl (λ r. back r xs b ys)
  where
    go : (t : Step) → utf8_step q x ≡ t → ((r : Pending) → Follows r → b < 0x80 → utf8_from r (xs ++ b ∷ ys) ≡ true → utf8_from whole (b ∷ ys) ≡ true) →
        utf8_from whole (b ∷ ys) ≡ true
    go (Step.next r) k ih = ih r (step_follows q x r k) l (sym (next_step q r x (xs ++ b ∷ ys) k) ∙ e)
    go Step.bad k ih = absurd (never q x (xs ++ b ∷ ys) k e)

-- the place of an ASCII byte cuts no character
pub ascii_whole : (s : List ℕ) (i : ℕ) → is_utf8 s ≡ true → i < length s → byte_at s i < 0x80 → utf8_at whole s i ≡ true
unfolding is_utf8 utf8_at
ascii_whole s i u h l =
    let e : take i s ++ byte_at s i ∷ drop (i + 1) s ≡ s = ap (λ (r : List ℕ). take i s ++ r) (sym (drop_step s i h)) ∙ take-append-drop i s in
    ap (utf8_from whole) (drop_step s i h) ∙ back whole (take i s) (byte_at s i) (drop (i + 1) s) whole_follows l (ap (utf8_from whole) e ∙ u)
