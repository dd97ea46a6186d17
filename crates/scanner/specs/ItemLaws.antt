-- The texts and quoted texts among the tokens of an accepted reading are the items of its argument, where that is a list, and then nothing
-- of the argument is of no list. Look for `items_tokens`, `items_unlisted`. Assumes nothing.
use Rattle.std.proofs.Math.Path.{◌≡◌, refl, sym, ap}
use Rattle.std.proofs.Common.{◌∙◌, eqb-true, le-leb}
use Rattle.std.specs.Prelude.{Bool, ◌||◌, eqb, ltb, leb, Ok, Option, Some, None}
use Rattle.std.proofs.Math.Bool.{true, false, cond}
use Rattle.std.proofs.lemmas.Bool.{false≢true, eqb-false, lt-leb}
use mathlib.Core.List.{List, [], ◌∷◌, ◌++◌}
use Prim.Native.Nat.{ℕ, zero, suc, ◌+◌, ◌-◌, ◌<◌, ◌≤◌}
use native.Mathlib.Omega.{arith}
use Rattle.std.proofs.Math.Decide.{dec_lt}
use Rattle.std.proofs.Math.ListN.{length}
use Rattle.scan.specs.Bytes.{is_space, is_text}
use Rattle.scan.specs.Scan.{run_at, byte_at, part_of}
use Rattle.scan.specs.RunLaws.{run_at_le, run_at_within, run_at_starts, run_at_ends, run_at_later}
use Rattle.scan.specs.PartLaws.{part_length}
use Rattle.lists.specs.Lists.{item_at, Items, also, items_at, items_of}
use Rattle.lists.specs.ListLaws.{item_in, items_bad, items_last, items_left, items_on}
use Rattle.lists.specs.declared.list.Item.{Item}
use Rattle.reading.specs.Line.{skip_byte, reading_of, argument_of}
use Rattle.reading.specs.LineLaws.{parsed}
use Rattle.reading.specs.declared.line.CommandDescription.{CommandDescription}
use Rattle.scanner.specs.Tokens.{token, lead_of, Piece, pieces, parted, item_token, argument_token, token_at, tokens_at, tokens_of}
use Rattle.scanner.specs.Cover.{kind_no, of_kind, only, is_item, texts, token_of, tokens_for, some}
use Rattle.scanner.specs.LeadLaws.{AllPieces, lead_inside}
use Rattle.scanner.specs.TokensLaws.{from_end, tokens_on_lem}
use Rattle.scanner.specs.ReadLaws.{token_behind, tokens_in, lead_tokens, argument_read}
use Rattle.scanner.specs.StopLaws.{line_end, no_newline}
use Rattle.scanner.specs.WithinLaws.{behind_token}
use Rattle.scanner.specs.PartItemLaws.{part_byte, space_moved, item_moved}
use Rattle.scanner.specs.declared.token.TokenKind.{TokenKind}
use Rattle.scanner.specs.declared.token.Token.{Token}

-- some of the tokens -------------------------------------------------------------------------------------------------------------------------

module _ (f : TokenKind → Bool) (t : Token) (ts : List Token) where
  only_yes : f t.kind ≡ true → only f (t ∷ ts) ≡ t ∷ only f ts
  unfolding only
  only_yes e = rw (e, only)

  only_no : f t.kind ≡ false → only f (t ∷ ts) ≡ only f ts
  unfolding only
  only_no e = rw (e, only)

-- a test that implies another takes out of what the other takes out the same as out of all
only_only : (f g : TokenKind → Bool) → ((k : TokenKind) → f k ≡ true → g k ≡ true) → (ts : List Token) → only f (only g ts) ≡ only f ts
unfolding only
only_only f g h [] = refl
only_only f g h (t ∷ ts) = go (f t.kind) (g t.kind) refl refl (only_only f g h ts)
  where
    go : (b c : Bool) → f t.kind ≡ b → g t.kind ≡ c → only f (only g ts) ≡ only f ts → only f (only g (t ∷ ts)) ≡ only f (t ∷ ts)
    go true true p q r = ap (only f) (only_yes g t ts q) ∙ only_yes f t (only g ts) p ∙ ap (λ (us : List Token). t ∷ us) r ∙ sym (only_yes f t ts p)
    go false true p q r = ap (only f) (only_yes g t ts q) ∙ only_no f t (only g ts) p ∙ r ∙ sym (only_no f t ts p)
    go true false p q r = absurd (false≢true (sym q ∙ h t.kind p))
    go false false p q r = ap (only f) (only_no g t ts q) ∙ r ∙ sym (only_no f t ts p)

-- the rest of an argument that is no list
is_unlisted : TokenKind → Bool
is_unlisted k = eqb (kind_no k) (kind_no TokenKind.Unlisted)

kind_unlisted : (ts : List Token) → of_kind TokenKind.Unlisted ts ≡ only is_unlisted ts
unfolding of_kind only is_unlisted
kind_unlisted [] = refl
kind_unlisted (t ∷ ts) = go (is_unlisted t.kind) refl (kind_unlisted ts)
  where
    go : (b : Bool) → is_unlisted t.kind ≡ b → of_kind TokenKind.Unlisted ts ≡ only is_unlisted ts → of_kind TokenKind.Unlisted (t ∷ ts) ≡ only is_unlisted (t ∷ ts)
    go true e r = rw (e, of_kind, only) (ap (λ (us : List Token). t ∷ us) r)
    go false e r = rw (e, of_kind, only) r

-- what an argument has besides spaces: its items, or the rest of one that is no list
is_part : TokenKind → Bool
is_part k = is_item k || is_unlisted k

abbrev parts : List Token → List Token
parts ts = only is_part ts

-- of pieces that are none
pieces_parts : (i : ℕ) (ps : List Piece) (ts : List Token) → AllPieces (λ (k : TokenKind) (n : ℕ). is_part k ≡ false) ps → parts (tokens_in i ps ++ ts) ≡ parts ts
unfolding tokens_in some
pieces_parts i [] ts f = refl
pieces_parts i (p ∷ ps) ts f = go (ltb i p.stop) (pieces_parts p.stop ps ts f.1)
  where
    t : Token
    t = token p.kind i p.stop

    go : (b : Bool) → parts (tokens_in p.stop ps ++ ts) ≡ parts ts → parts ((cond b (t ∷ []) [] ++ tokens_in p.stop ps) ++ ts) ≡ parts ts
    go true r = only_no is_part t (tokens_in p.stop ps ++ ts) f.0 ∙ r
    go false r = r

-- the lead has none
lead_parts : (s : List ℕ) → parts (tokens_of s) ≡ parts (tokens_at s (lead_of s).argument)
unfolding pieces is_part is_item is_unlisted kind_no
lead_parts s =
    ap parts (lead_tokens s)
    ∙ pieces_parts 0 (pieces (lead_of s)) (tokens_at s (lead_of s).argument) (refl, (refl, (refl, (refl, (refl, (refl, (refl, (refl, (refl, tt)))))))))

-- an item is a text or a quoted text
module _ (s : List ℕ) (a : ℕ) (x : Item) where
  item_kind : (f : TokenKind → Bool) (c : Bool) → f TokenKind.Quoted ≡ c → f TokenKind.Text ≡ c → f (token_of s a x).kind ≡ c
  unfolding token_of
  item_kind f c p q = go (eqb (byte_at s (a + x.start)) 0x22)
    where
      go : (b : Bool) → f (cond b TokenKind.Quoted TokenKind.Text) ≡ c
      go true = p
      go false = q

  item_part : is_part (token_of s a x).kind ≡ true
  unfolding is_part is_item is_unlisted kind_no
  item_part = item_kind is_part true refl refl

  item_text : is_item (token_of s a x).kind ≡ true
  unfolding is_item kind_no
  item_text = item_kind is_item true refl refl

  item_listed : is_unlisted (token_of s a x).kind ≡ false
  unfolding is_unlisted kind_no
  item_listed = item_kind is_unlisted false refl refl

-- a list that is an item and others
record Also (x : Item) (r : Items) (xs : List Item) : Type 0 where
  rest : List Item
  is : r ≡ Items.good rest
  all : x ∷ rest ≡ xs

also_good : (x : Item) (r : Items) (xs : List Item) → also x r ≡ Items.good xs → Also x r xs
unfolding also
also_good x Items.bad xs h = let z : ◌≡◌ {A = ℕ} 0 1 = cc in absurd (omega arith)
also_good x (Items.good ys) xs h = record { rest = ys; is = refl; all = (cc) }

-- an argument does not start with a space
argument_first : (s : List ℕ) (d : CommandDescription) → reading_of s ≡ Ok d → d.argument < length s → is_space (byte_at s d.argument) ≡ false
argument_first s d h l =
    let p = parsed s d h in
    let q = p.argued in
    ap (λ (n : ℕ). is_space (byte_at s n)) (sym q) ∙ run_at_ends is_space s (skip_byte s p.next 0x21) (omega arith)

or_left : (x y : Bool) → x ≡ true → (x || y) ≡ true
or_left true y e = refl
or_left false y e = absurd (false≢true e)

or_right : (x y : Bool) → y ≡ true → (x || y) ≡ true
or_right true y e = refl
or_right false y e = e

or_true : (x : Bool) → (x || true) ≡ true
or_true true = refl
or_true false = refl

-- the argument --------------------------------------------------------------------------------------------------------------------------

module _ (s : List ℕ) (a e : ℕ) (lead : (lead_of s).argument ≡ a) (stopped : run_at is_text s a ≡ e) (ended : skip_byte s e 0x0A ≡ length s) where
  abbrev p : List ℕ
  p = part_of s a e

  ae : a ≤ e
  ae = omega (arith, stopped, run_at_le is_text s a)

  el : e ≤ length s
  el = omega (arith, stopped, run_at_within is_text s a (omega (arith, lead, lead_inside s)))

  line : e < length s → byte_at s e ≡ 0x0A
  line = line_end s a e stopped

  size : length p ≡ e - a
  size = part_length s a e el

  byte : (i : ℕ) → i < e - a → byte_at p i ≡ byte_at s (a + i)
  byte = part_byte s a e ae el line

  -- behind the argument there is none
  behind_parts : parts (tokens_at s e) ≡ []
  unfolding tokens_at only is_part is_item is_unlisted kind_no
  behind_parts = go (dec_lt e (length s))
    where
      go : Dec (e < length s) → parts (tokens_at s e) ≡ []
      go (no k) = ap parts (from_end s (length s - e) e (omega arith))
      go (yes k) =
          ap parts
          (tokens_on_lem s e k
          ∙ ap (λ (t : Token). t ∷ tokens_at s t.stop) (behind_token s e (ap (run_at is_text s) lead ∙ stopped) ended k)
          ∙ ap (λ (ts : List Token). token TokenKind.Newline e (length s) ∷ ts) (from_end s (length s - length s) (length s) (omega arith)))

  module _ (i : ℕ) (h : i < e - a) where
    in_line : a + i < length s
    in_line = omega (arith, el)

    at_argument : token_at s (a + i) ≡ argument_token s (a + i)
    at_argument = token_behind s (a + i) (omega (arith, lead))

    -- where a space stands, a token of spaces
    space_token : is_space (byte_at s (a + i)) ≡ true → token_at s (a + i) ≡ token TokenKind.Space (a + i) (run_at is_space s (a + i))
    unfolding argument_token
    space_token q = at_argument ∙ rw (lt-leb (length s) (a + i) in_line, q)

    -- where none stands, an item
    text_token : is_space (byte_at s (a + i)) ≡ false → token_at s (a + i) ≡ item_token s (a + i) (item_at s (a + i))
    unfolding argument_token
    text_token q =
        let w : run_at is_text s (a + i) ≡ e = run_at_later is_text s a (a + i) (omega arith) (omega (arith, stopped)) ∙ stopped in
        let t = run_at_starts is_text s (a + i) (omega (arith, w)) in
        at_argument ∙ rw (lt-leb (length s) (a + i) in_line, q, no_newline (byte_at s (a + i)) t)

    item_token_lem : (j : ℕ) → is_space (byte_at s (a + i)) ≡ false → item_at p i ≡ Some j → parted s (a + j) ≡ true → token_at s (a + i) ≡ token_of s a (record { start = i; end = j })
    unfolding item_token token_of
    item_token_lem j q t f = text_token q ∙ ap (item_token s (a + i)) (item_moved s a e ae el line i j h t) ∙ rw f (go (eqb (byte_at s (a + i)) 0x22))
      where
        go : (b : Bool) → cond b (token TokenKind.Quoted (a + i) (a + j)) (token TokenKind.Text (a + i) (a + j)) ≡ token (cond b TokenKind.Quoted TokenKind.Text) (a + i) (a + j)
        go true = refl
        go false = refl

  -- past the spaces behind an item
  spaces_parts : (j : ℕ) → j ≤ e - a → parts (tokens_at s (a + j)) ≡ parts (tokens_at s (a + run_at is_space p j))
  unfolding is_part is_item is_unlisted kind_no
  spaces_parts j h = go (dec_lt j (run_at is_space p j))
    where
      r : ℕ
      r = run_at is_space p j

      go : Dec (j < r) → parts (tokens_at s (a + j)) ≡ parts (tokens_at s (a + r))
      go (no k) = let w : j ≡ r = omega (arith, run_at_le is_space p j) in ap (λ (n : ℕ). parts (tokens_at s (a + n))) w
      go (yes k) =
          let l : j < e - a = omega (arith, size, run_at_within is_space p j (omega (arith, size))) in
          let q : is_space (byte_at s (a + j)) ≡ true = ap is_space (sym (byte j l)) ∙ run_at_starts is_space p j k in
          ap parts (tokens_on_lem s (a + j) (in_line j l) ∙ ap (λ (t : Token). t ∷ tokens_at s t.stop) (space_token j l q))
          ∙ only_no is_part (token TokenKind.Space (a + j) (run_at is_space s (a + j))) (tokens_at s (run_at is_space s (a + j))) refl
          ∙ ap (λ (n : ℕ). parts (tokens_at s n)) (space_moved s a e ae el line j h)

  -- an item may end where the argument does, or before a space
  end_parted : parted s e ≡ true
  unfolding parted is_space
  end_parted = go (dec_lt e (length s))
    where
      go : Dec (e < length s) → parted s e ≡ true
      go (yes k) = rw (line k) (or_true (leb (length s) e))
      go (no k) = rw (le-leb (length s) e (omega arith))

  space_parted : (j : ℕ) → j ≤ e - a → j < run_at is_space p j → parted s (a + j) ≡ true
  unfolding parted
  space_parted j h k =
      let l : j < e - a = omega (arith, size, run_at_within is_space p j (omega (arith, size))) in
      let q : is_space (byte_at s (a + j)) ≡ true = ap is_space (sym (byte j l)) ∙ run_at_starts is_space p j k in
      rw q (or_true (leb (length s) (a + j)))

  -- an item, and then what stands behind its spaces
  item_parts : (i j : ℕ) → i < e - a → is_space (byte_at s (a + i)) ≡ false → item_at p i ≡ Some j → parted s (a + j) ≡ true →
      parts (tokens_at s (a + i)) ≡ token_of s a (record { start = i; end = j }) ∷ parts (tokens_at s (a + run_at is_space p j))
  unfolding token_of
  item_parts i j h q t f =
      let x : Item = record { start = i; end = j } in
      ap parts (tokens_on_lem s (a + i) (in_line i h) ∙ ap (λ (u : Token). u ∷ tokens_at s u.stop) (item_token_lem i h j q t f))
      ∙ only_yes is_part (token_of s a x) (tokens_at s (a + j)) (item_part s a x)
      ∙ ap (λ (ts : List Token). token_of s a x ∷ ts) (spaces_parts j (omega (arith, size, (item_in p i j t).within)))

  -- the last item
  last_parts : (i j : ℕ) (xs : List Item) → i < e - a → is_space (byte_at s (a + i)) ≡ false → item_at p i ≡ Some j → run_at is_space p j ≡ length p → items_at p i ≡ Items.good xs →
      parts (tokens_at s (a + i)) ≡ tokens_for s a xs
  unfolding tokens_for
  last_parts i j xs h q t l g =
      let x : Item = record { start = i; end = j } in
      let w = items_last p i j t l in
      let o : x ∷ [] ≡ xs = cc in
      let n : a + run_at is_space p j ≡ e = omega (arith, l, size, ae) in
      item_parts i j h q t (go (dec_lt j (run_at is_space p j)))
      ∙ ap (λ (ts : List Token). token_of s a x ∷ ts) (ap (λ (k : ℕ). parts (tokens_at s k)) n ∙ behind_parts)
      ∙ ap (tokens_for s a) o
    where
      b : j ≤ e - a
      b = omega (arith, size, (item_in p i j t).within)

      go : Dec (j < run_at is_space p j) → parted s (a + j) ≡ true
      go (yes k) = space_parted j b k
      go (no k) = let n : a + j ≡ e = omega (arith, l, size, ae, run_at_le is_space p j) in ap (parted s) n ∙ end_parted

  -- the items from i on
  items_parts : (m i : ℕ) (xs : List Item) → e - a - i ≤ m → i < e - a → is_space (byte_at s (a + i)) ≡ false → items_at p i ≡ Items.good xs →
      parts (tokens_at s (a + i)) ≡ tokens_for s a xs
  unfolding tokens_for
  items_parts zero i xs l h q g = absurd (omega arith)
  items_parts (suc m) i xs l h q g = go (item_at p i) refl (items_parts m)
    where
      go : (t : Option ℕ) → item_at p i ≡ t →
          ((k : ℕ) (ys : List Item) → e - a - k ≤ m → k < e - a → is_space (byte_at s (a + k)) ≡ false → items_at p k ≡ Items.good ys → parts (tokens_at s (a + k)) ≡ tokens_for s a ys) →
          parts (tokens_at s (a + i)) ≡ tokens_for s a xs
      go None t r = let w = items_bad p i t in let z : ◌≡◌ {A = ℕ} 0 1 = cc in absurd (omega arith)
      go (Some j) t r = at (eqb n (length p)) (eqb n j) refl refl
        where
          n : ℕ
          n = run_at is_space p j

          x : Item
          x = record { start = i; end = j }

          at : (b c : Bool) → eqb n (length p) ≡ b → eqb n j ≡ c → parts (tokens_at s (a + i)) ≡ tokens_for s a xs
          at true c u v = last_parts i j xs h q t (eqb-true n (length p) u) g
          at false true u v = let w = items_left p i j t (eqb-false n (length p) u) (eqb-true n j v) in let z : ◌≡◌ {A = ℕ} 0 1 = cc in absurd (omega arith)
          at false false u v =
              let b = item_in p i j t in
              let d = also_good x (items_at p n) xs (sym (items_on p i j t (eqb-false n (length p) u) (eqb-false n j v)) ∙ g) in
              let o = eqb-false n (length p) u in
              let f = eqb-false n j v in
              let c : n < length p = omega (arith, o, run_at_within is_space p j b.within) in
              let k : n < e - a = omega (arith, size) in
              item_parts i j h q t (space_parted j (omega (arith, size, b.within)) (omega (arith, f, run_at_le is_space p j)))
              ∙ ap (λ (ts : List Token). token_of s a x ∷ ts)
              (r n d.rest (omega (arith, b.after, run_at_le is_space p j)) k (ap is_space (sym (byte n k)) ∙ run_at_ends is_space p j c) d.is)
              ∙ ap (tokens_for s a) d.all

  -- all of them
  argument_parts : (xs : List Item) → (a < length s → is_space (byte_at s a) ≡ false) → items_of p ≡ Items.good xs → parts (tokens_at s a) ≡ tokens_for s a xs
  unfolding items_of tokens_for
  argument_parts xs q g = go (eqb (run_at is_space p 0) (length p)) refl g
    where
      n : a ≡ a + 0
      n = omega arith

      go : (b : Bool) → eqb (run_at is_space p 0) (length p) ≡ b → cond b (Items.good []) (items_at p 0) ≡ Items.good xs → parts (tokens_at s a) ≡ tokens_for s a xs
      go true u w =
          let o : [] ≡ xs = cc in
          let k : a + run_at is_space p 0 ≡ e = omega (arith, eqb-true (run_at is_space p 0) (length p) u, size, ae) in
          ap (λ (m : ℕ). parts (tokens_at s m)) n ∙ spaces_parts 0 (omega arith) ∙ ap (λ (m : ℕ). parts (tokens_at s m)) k ∙ behind_parts ∙ ap (tokens_for s a) o
      go false u w =
          let o = eqb-false (run_at is_space p 0) (length p) u in
          let k : 0 < e - a = omega (arith, o, size, run_at_within is_space p 0 (omega arith)) in
          ap (λ (m : ℕ). parts (tokens_at s m)) n ∙ items_parts (e - a) 0 xs (omega arith) k (ap (λ (m : ℕ). is_space (byte_at s m)) (sym n) ∙ q (omega (arith, el))) w

-- of items, those that are texts are all, and none is of no list
for_texts : (s : List ℕ) (a : ℕ) (xs : List Item) → texts (tokens_for s a xs) ≡ tokens_for s a xs
unfolding only tokens_for
for_texts s a [] = refl
for_texts s a (x ∷ xs) = only_yes is_item (token_of s a x) (tokens_for s a xs) (item_text s a x) ∙ ap (λ (ts : List Token). token_of s a x ∷ ts) (for_texts s a xs)

for_unlisted : (s : List ℕ) (a : ℕ) (xs : List Item) → only is_unlisted (tokens_for s a xs) ≡ []
unfolding only tokens_for
for_unlisted s a [] = refl
for_unlisted s a (x ∷ xs) = only_no is_unlisted (token_of s a x) (tokens_for s a xs) (item_listed s a x) ∙ for_unlisted s a xs

-- an accepted reading whose argument is a list
module _ (s : List ℕ) (d : CommandDescription) (h : reading_of s ≡ Ok d) (xs : List Item) (g : items_of (argument_of s d) ≡ Items.good xs) where
  items_parts_of : parts (tokens_of s) ≡ tokens_for s d.argument xs
  items_parts_of =
      let p = parsed s d h in
      let a = argument_read s d h in
      lead_parts s
      ∙ ap (λ (n : ℕ). parts (tokens_at s n)) a
      ∙ argument_parts s d.argument d.stop a p.stopped p.ended xs (argument_first s d h) g

  -- its texts and quoted texts are the items, in order, and where they stand in the argument
  pub items_tokens : texts (tokens_of s) ≡ tokens_for s d.argument xs
  unfolding is_part
  items_tokens =
      sym (only_only is_item is_part (λ k e. or_left (is_item k) (is_unlisted k) e) (tokens_of s)) ∙ ap (only is_item) items_parts_of ∙ for_texts s d.argument xs

  -- and nothing is of no list
  pub items_unlisted : of_kind TokenKind.Unlisted (tokens_of s) ≡ []
  unfolding is_part
  items_unlisted =
      kind_unlisted (tokens_of s)
      ∙ sym (only_only is_unlisted is_part (λ k e. or_right (is_item k) (is_unlisted k) e) (tokens_of s))
      ∙ ap (only is_unlisted) items_parts_of
      ∙ for_unlisted s d.argument xs
