-- Where tokens stop: none that starts before the argument's end goes past it, since no item holds a 0x0A; and none of the argument is
-- left over. Look for `item_stop`, `line_stop`, `line_kind`. Assumes nothing.
use Rattle.std.specs.Prelude.{◌≡◌, Bool, cond, not, List, [], ◌∷◌, ℕ, ◌+◌, ◌<◌, ◌≤◌, leb, length, drop, Option, Some, None}
use Rattle.std.proofs.Math.Path.{refl}
use Rattle.std.proofs.Common.{◌∙◌, sym, ap}
use Rattle.std.proofs.Math.Bool.{true, false}
use Rattle.std.proofs.lemmas.Bool.{false≢true}
use native.Mathlib.Omega.{arith}
use Rattle.std.proofs.Math.Decide.{dec_lt}
use Rattle.std.proofs.Math.Dec.{eqb}
use borrow.Author.Tests.{eqb-true, lt-leb}
use Rattle.scan.specs.Bytes.{is_space, is_text, is_plain, is_quoted}
use Rattle.scan.specs.Scan.{run_from, run_at, byte_at}
use Rattle.scan.specs.RunLaws.{run_yes, run_no, run_le, run_at_on, run_at_le, run_at_within, run_at_ends, run_at_starts, run_at_later, byte_inside}
use Rattle.lists.specs.Text.{quoted_escape, plain_escape, escape_of, own, stop_at, text_end_from, text_end_at}
use Rattle.lists.specs.Lists.{item_of, item_at}
use Rattle.scanner.specs.Tokens.{token, end_token, lead_of, pieces, parted, item_token, argument_token, token_at}
use Rattle.scanner.specs.Cover.{kind_no}
use Rattle.scanner.specs.LeadLaws.{piece_good, lead_inside, lead_upto}
use Rattle.scanner.specs.ReadLaws.{token_lead, token_behind}
use Rattle.scanner.specs.declared.token.TokenKind.{TokenKind}

-- one byte, and runs of bytes ---------------------------------------------------------------------------------------------------------

-- a byte that no argument has
newline : (b : ℕ) → is_text b ≡ false → b ≡ 0x0A
unfolding is_text
newline b h = go (eqb b 0x0A) refl h
  where
    go : (t : Bool) → eqb b 0x0A ≡ t → not t ≡ false → b ≡ 0x0A
    go true e g = eqb-true b 0x0A e
    go false e g = absurd (false≢true (sym g))

-- it stands where an argument from i on ends before the end of the text
pub line_end : (s : List ℕ) (i e : ℕ) → run_at is_text s i ≡ e → e < length s → byte_at s e ≡ 0x0A
line_end s i e r h =
    let w : run_at is_text s i < length s = omega arith in
    ap (byte_at s) (sym r) ∙ newline (byte_at s (run_at is_text s i)) (run_at_ends is_text s i w)

pub no_newline : (b : ℕ) → is_text b ≡ true → eqb b 0x0A ≡ false
unfolding is_text
no_newline b h = go (eqb b 0x0A) h
  where
    go : (t : Bool) → not t ≡ true → t ≡ false
    go true e = absurd (false≢true e)
    go false e = refl

space_text : (b : ℕ) → is_space b ≡ true → is_text b ≡ true
unfolding is_text is_space
space_text b h = go (eqb b 0x0A) refl
  where
    go : (t : Bool) → eqb b 0x0A ≡ t → not t ≡ true
    go true e = absurd (false≢true (sym (ap is_space (eqb-true b 0x0A e)) ∙ h))
    go false e = refl

-- the bytes of a test that implies another: their run ends first
run_among : (p q : ℕ → Bool) → ((b : ℕ) → p b ≡ true → q b ≡ true) → (i : ℕ) (xs : List ℕ) → run_from p i xs ≤ run_from q i xs
unfolding run_from
run_among p q f i [] = omega arith
run_among p q f i (b ∷ bs) = go (p b) refl (run_among p q f (i + 1) bs)
  where
    go : (t : Bool) → p b ≡ t → run_from p (i + 1) bs ≤ run_from q (i + 1) bs → run_from p i (b ∷ bs) ≤ run_from q i (b ∷ bs)
    go true e r = rw (run_yes p i b bs e, run_yes q i b bs (f b e)) r
    go false e r = rw (run_no p i b bs e) (run_le q i (b ∷ bs))

space_stop : (s : List ℕ) (i : ℕ) → run_at is_space s i ≤ run_at is_text s i
unfolding run_at
space_stop s i = run_among is_space is_text space_text i (drop i s)

-- texts and items ---------------------------------------------------------------------------------------------------------------------

-- what ends with d bytes before e, or more, if it ends
abbrev Ends : ℕ → ℕ → Option ℕ → Type 0
Ends d e (Some j) = j + d ≤ e
Ends d e None = Unit {0}

-- 0x0A ends a text, whether a backslash stands before it or not
text_newline : (q e : Bool) (i : ℕ) (bs : List ℕ) → Ends (cond q 1 0) i (text_end_from q e i (0x0A ∷ bs))
unfolding text_end_from escape_of quoted_escape plain_escape own is_quoted is_plain stop_at
text_newline true true i bs = tt
text_newline true false i bs = tt
text_newline false true i bs = tt
text_newline false false i bs = omega arith

stop_ends : (q : Bool) (i b e : ℕ) → i + 1 ≤ e → Ends (cond q 1 0) e (stop_at q i b)
unfolding stop_at
stop_ends true i b e h = go (eqb b 0x22)
  where
    go : (t : Bool) → Ends 1 e (cond t (Some i) None)
    go true = h
    go false = tt
stop_ends false i b e h = omega arith

module _ (q : Bool) (i b : ℕ) where
  -- past any other byte the text goes on, or it ends there
  text_on : (e : Bool) (bs : List ℕ) → ((e : Bool) → Ends (cond q 1 0) (run_from is_text (i + 1) bs) (text_end_from q e (i + 1) bs)) →
      Ends (cond q 1 0) (run_from is_text (i + 1) bs) (text_end_from q e i (b ∷ bs))
  unfolding text_end_from
  text_on true bs r = go (escape_of q b)
    where
      go : (t : Option ℕ) → Ends (cond q 1 0) (run_from is_text (i + 1) bs) (elim t as (λ x. Option ℕ) [ Some c ↦ text_end_from q false (i + 1) bs | None ↦ None ])
      go (Some c) = r false
      go None = tt
  text_on false bs r = go (own q b) (eqb b 0x5C)
    where
      go : (t u : Bool) → Ends (cond q 1 0) (run_from is_text (i + 1) bs)
          (elim t as (λ x. Option ℕ) [ true ↦ text_end_from q false (i + 1) bs | false ↦ elim u as (λ x. Option ℕ) [ true ↦ text_end_from q true (i + 1) bs | false ↦ stop_at q i b ] ])
      go true u = r false
      go false true = r true
      go false false = stop_ends q i b (run_from is_text (i + 1) bs) (run_le is_text (i + 1) bs)

-- a text ends before 0x0A, a quoted one with its closing quote
text_ends : (q e : Bool) (i : ℕ) (xs : List ℕ) → Ends (cond q 1 0) (run_from is_text i xs) (text_end_from q e i xs)
unfolding text_end_from run_from stop_at
text_ends true true i [] = tt
text_ends true false i [] = tt
text_ends false true i [] = tt
text_ends false false i [] = omega arith
text_ends q e i (b ∷ bs) = go (is_text b) refl (λ f. text_ends q f (i + 1) bs)
  where
    go : (t : Bool) → is_text b ≡ t → ((f : Bool) → Ends (cond q 1 0) (run_from is_text (i + 1) bs) (text_end_from q f (i + 1) bs)) →
        Ends (cond q 1 0) (run_from is_text i (b ∷ bs)) (text_end_from q e i (b ∷ bs))
    go true h r = rw (run_yes is_text i b bs h) (text_on q i b e bs r)
    go false h r = rw (run_no is_text i b bs h, newline b h) (text_newline q e i bs)

text_stop : (q : Bool) (s : List ℕ) (i : ℕ) → Ends (cond q 1 0) (run_at is_text s i) (text_end_at q s i)
unfolding text_end_at run_at
text_stop q s i = text_ends q false i (drop i s)

item_ends : (i d e : ℕ) (t : Option ℕ) → Ends d e t → Ends 0 e (item_of i d t)
unfolding item_of
item_ends i d e None h = tt
item_ends i d e (Some j) h = go (eqb j i)
  where
    go : (t : Bool) → Ends 0 e (cond t None (Some (j + d)))
    go true = tt
    go false = omega arith

quote_on : (s : List ℕ) (i : ℕ) → byte_at s i ≡ 0x22 → run_at is_text s i ≡ run_at is_text s (i + 1)
unfolding is_text
quote_on s i e = run_at_on is_text s i (byte_inside s i 0x22 e (omega arith)) (ap is_text e)

-- an item ends before the first 0x0A
item_stop : (s : List ℕ) (i : ℕ) → Ends 0 (run_at is_text s i) (item_at s i)
unfolding item_at
item_stop s i = go (eqb (byte_at s i) 0x22) refl
  where
    go : (t : Bool) → eqb (byte_at s i) 0x22 ≡ t → Ends 0 (run_at is_text s i) (cond t (item_of (i + 1) 1 (text_end_at true s (i + 1))) (item_of i 0 (text_end_at false s i)))
    go true e =
        rw (quote_on s i (eqb-true (byte_at s i) 0x22 e))
        (item_ends (i + 1) 1 (run_at is_text s (i + 1)) (text_end_at true s (i + 1)) (text_stop true s (i + 1)))
    go false e = item_ends i 0 (run_at is_text s i) (text_end_at false s i) (text_stop false s i)

-- tokens ------------------------------------------------------------------------------------------------------------------------------

module _ (s : List ℕ) (i : ℕ) where
  token_stop : (t : Option ℕ) → Ends 0 (run_at is_text s i) t → (item_token s i t).stop ≤ run_at is_text s i
  unfolding item_token
  token_stop None h = omega arith
  token_stop (Some j) h = go (parted s j) (eqb (byte_at s i) 0x22)
    where
      go : (a b : Bool) → (cond a (cond b (token TokenKind.Quoted i j) (token TokenKind.Text i j)) (token TokenKind.Unlisted i (run_at is_text s i))).stop ≤ run_at is_text s i
      go true true = omega arith
      go true false = omega arith
      go false b = omega arith

  -- and so does each token of an argument that starts before it
  argument_stop : i < run_at is_text s i → i < length s → (argument_token s i).stop ≤ run_at is_text s i
  unfolding argument_token
  argument_stop h k = rw (no_newline (byte_at s i) (run_at_starts is_text s i h), lt-leb (length s) i k) (go (is_space (byte_at s i)))
    where
      go : (b : Bool) → (cond b (token TokenKind.Space i (run_at is_space s i)) (item_token s i (item_at s i))).stop ≤ run_at is_text s i
      go true = space_stop s i
      go false = token_stop (item_at s i) (item_stop s i)

  -- none of them is left over
  text_kind : i < run_at is_text s i → eqb (kind_no (argument_token s i).kind) (kind_no TokenKind.Left) ≡ false
  unfolding argument_token item_token kind_no
  text_kind h = rw (no_newline (byte_at s i) (run_at_starts is_text s i h)) (go (leb (length s) i) (is_space (byte_at s i)) (item_at s i))
    where
      item : (t : Option ℕ) → eqb (kind_no (item_token s i t).kind) (kind_no TokenKind.Left) ≡ false
      item None = refl
      item (Some j) = ends (parted s j) (eqb (byte_at s i) 0x22)
        where
          ends : (a b : Bool) →
              eqb (kind_no (cond a (cond b (token TokenKind.Quoted i j) (token TokenKind.Text i j)) (token TokenKind.Unlisted i (run_at is_text s i))).kind) (kind_no TokenKind.Left) ≡ false
          ends true true = refl
          ends true false = refl
          ends false b = refl

      go : (a b : Bool) (t : Option ℕ) → eqb (kind_no (cond a (end_token s) (cond b (token TokenKind.Space i (run_at is_space s i)) (item_token s i t))).kind) (kind_no TokenKind.Left) ≡ false
      go true b t = refl
      go false true t = refl
      go false false t = item t

-- no token of the argument is left over
pub line_kind : (s : List ℕ) (e : ℕ) → run_at is_text s (lead_of s).argument ≡ e → (i : ℕ) → (lead_of s).argument ≤ i → i < e →
    eqb (kind_no (token_at s i).kind) (kind_no TokenKind.Left) ≡ false
line_kind s e r i h k =
    let w : run_at is_text s i ≡ e = run_at_later is_text s (lead_of s).argument i h (omega arith) ∙ r in
    rw (token_behind s i h) (text_kind s i (omega arith))

-- no token of the line that starts before the argument's end goes past it
pub line_stop : (s : List ℕ) (e : ℕ) → run_at is_text s (lead_of s).argument ≡ e → (i : ℕ) → i < e → (token_at s i).stop ≤ e
line_stop s e r i k = go (dec_lt i (lead_of s).argument)
  where
    a : ℕ
    a = (lead_of s).argument

    go : Dec (i < a) → (token_at s i).stop ≤ e
    go (yes l) =
        let g = piece_good 0 a i (pieces (lead_of s)) (lead_upto s) (omega arith) l in
        rw (token_lead s i l) (omega (arith, g.inside, r, run_at_le is_text s a))
    go (no l) =
        let w : run_at is_text s i ≡ e = run_at_later is_text s a i (omega arith) (omega arith) ∙ r in
        let m : i < length s = omega (arith, r, run_at_within is_text s a (lead_inside s)) in
        rw (token_behind s i (omega arith)) (omega (arith, argument_stop s i (omega arith) m, w))
