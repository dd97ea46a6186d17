-- The tokens of a line and its reading: the tokens of the lead, those of one kind, and what an accepted reading finds.
-- Look for `tokens_word`, `tokens_range`, `tokens_bang`, `argument_read`, `left_behind`. Assumes nothing.
use Rattle.std.specs.Prelude.{◌≡◌, Bool, true, not, leb, ltb, Ok, Option, Some, None}
use Rattle.std.proofs.Math.Path.{refl, ap}
use Rattle.std.proofs.Common.{◌∙◌, arith}
use Rattle.std.proofs.Math.Bool.{false, cond}
use mathlib.Core.List.{List, [], ◌∷◌, ◌++◌, append-nil}
use Prim.Native.Nat.{ℕ, zero, suc, ◌+◌, ◌-◌, ◌<◌, ◌≤◌}
use Rattle.std.proofs.Math.Decide.{dec_lt}
use Rattle.std.proofs.Math.Dec.{eqb}
use Rattle.std.proofs.Math.ListN.{length}
use borrow.Author.Tests.{ltb-true, ltb-false, lt-ltb, le-ltb, eq-eqb, ne_eqb}
use Rattle.scan.specs.Bytes.{is_space, is_text}
use Rattle.scan.specs.Scan.{run_at, byte_at}
use Rattle.lists.specs.Lists.{item_at}
use Rattle.reading.specs.Line.{skip_byte, start_of, reading_of}
use Rattle.reading.specs.LineLaws.{Parsed, parsed}
use Rattle.reading.specs.declared.line.CommandDescription.{CommandDescription}
use Rattle.scanner.specs.Tokens.{token, end_token, lead_word, lead_of, Piece, pieces, up_to, piece_at, parted, newline_token, item_token, argument_token, token_at, tokens_from, tokens_at, tokens_of}
use Rattle.scanner.specs.Cover.{kind_no, of_kind, some}
use Rattle.scanner.specs.LeadLaws.{Upto, upto_le, lead_inside, lead_upto, lead_parsed}
use Rattle.scanner.specs.TokensLaws.{token_good, from_end, from_on, tokens_on_lem}
use Rattle.scanner.specs.declared.token.TokenKind.{TokenKind}
use Rattle.scanner.specs.declared.token.Token.{Token}
use Rattle.scanner.specs.declared.token.Lead.{Lead}

-- the tokens of the lead, and those behind it ------------------------------------------------------------------------------------------

pub token_lead : (s : List ℕ) (i : ℕ) → i < (lead_of s).argument → token_at s i ≡ piece_at (pieces (lead_of s)) i
unfolding token_at
token_lead s i h = rw (lt-ltb i (lead_of s).argument h)

pub token_behind : (s : List ℕ) (i : ℕ) → (lead_of s).argument ≤ i → token_at s i ≡ argument_token s i
unfolding token_at
token_behind s i h = rw (le-ltb i (lead_of s).argument h)

-- the pieces that have bytes
unfoldable pub tokens_in : ℕ → List Piece → List Token
tokens_in i [] = []
tokens_in i (p ∷ ps) = some p.kind i p.stop ++ tokens_in p.stop ps

module _ (s : List ℕ) where
  pieces_on : (j e : ℕ) (ps : List Piece) → Upto j e ps → e ≤ length s → j ≤ e → ((i : ℕ) → j ≤ i → i < e → token_at s i ≡ piece_at ps i) → tokens_at s j ≡ tokens_in j ps ++ tokens_at s e
  unfolding tokens_in piece_at up_to some
  pieces_on j e [] u l m h = ap (tokens_at s) u
  pieces_on j e (p ∷ ps) u l m h = go (ltb j p.stop) refl (pieces_on p.stop e ps u.1 l (upto_le p.stop e ps u.1) later)
    where
      later : (i : ℕ) → p.stop ≤ i → i < e → token_at s i ≡ piece_at ps i
      later i a b = let f = u.0 in h i (omega arith) b ∙ rw (le-ltb i p.stop a)

      here : j < p.stop → j < e → token_at s j ≡ token p.kind j p.stop
      here a b = h j (omega arith) b ∙ rw (lt-ltb j p.stop a)

      go : (b : Bool) → ltb j p.stop ≡ b → tokens_at s p.stop ≡ tokens_in p.stop ps ++ tokens_at s e → tokens_at s j ≡ (some p.kind j p.stop ++ tokens_in p.stop ps) ++ tokens_at s e
      go true q r =
          let a = ltb-true j p.stop q in
          let c = upto_le p.stop e ps u.1 in
          let f = here a (omega arith) in
          tokens_on_lem s j (omega arith) ∙ ap (λ (t : Token). t ∷ tokens_at s t.stop) f ∙ rw (q, r)
      go false q r =
          let a : j ≡ p.stop = omega (arith, u.0, ltb-false j p.stop q) in
          ap (tokens_at s) a ∙ r ∙ rw q

  pub lead_tokens : tokens_of s ≡ tokens_in 0 (pieces (lead_of s)) ++ tokens_at s (lead_of s).argument
  unfolding tokens_of
  lead_tokens = pieces_on 0 (lead_of s).argument (pieces (lead_of s)) (lead_upto s) (lead_inside s) (omega arith) (λ i a b. token_lead s i b)

-- the tokens of one kind ---------------------------------------------------------------------------------------------------------------

kind_append : (k : TokenKind) (ts us : List Token) → of_kind k (ts ++ us) ≡ of_kind k ts ++ of_kind k us
unfolding of_kind
kind_append k [] us = refl
kind_append k (t ∷ ts) us = go (eqb (kind_no t.kind) (kind_no k)) refl (kind_append k ts us)
  where
    go : (b : Bool) → eqb (kind_no t.kind) (kind_no k) ≡ b → of_kind k (ts ++ us) ≡ of_kind k ts ++ of_kind k us → of_kind k (t ∷ (ts ++ us)) ≡ of_kind k (t ∷ ts) ++ of_kind k us
    go true e r = rw (e, of_kind, r)
    go false e r = rw (e, of_kind, r)

-- the pieces of one kind that have bytes
unfoldable pieces_of : TokenKind → ℕ → List Piece → List Token
pieces_of k i [] = []
pieces_of k i (p ∷ ps) =
    elim (eqb (kind_no p.kind) (kind_no k)) [ true ↦ some p.kind i p.stop ++ pieces_of k p.stop ps | false ↦ pieces_of k p.stop ps ]

pieces_kind : (k : TokenKind) (i : ℕ) (ps : List Piece) → of_kind k (tokens_in i ps) ≡ pieces_of k i ps
unfolding tokens_in of_kind pieces_of some
pieces_kind k i [] = refl
pieces_kind k i (p ∷ ps) = go (eqb (kind_no p.kind) (kind_no k)) (ltb i p.stop) refl (pieces_kind k p.stop ps)
  where
    t : Token
    t = token p.kind i p.stop

    go : (b c : Bool) → eqb (kind_no p.kind) (kind_no k) ≡ b → of_kind k (tokens_in p.stop ps) ≡ pieces_of k p.stop ps →
        of_kind k (cond c (t ∷ []) [] ++ tokens_in p.stop ps) ≡ elim b as (λ x. List Token) [ true ↦ cond c (t ∷ []) [] ++ pieces_of k p.stop ps | false ↦ pieces_of k p.stop ps ]
    go true true e r = rw (e, of_kind, r)
    go true false e r = r
    go false true e r = rw (e, of_kind, r)
    go false false e r = r

-- a token of an argument is of none of the first four kinds
argument_kind : (s : List ℕ) (i : ℕ) → 4 ≤ kind_no (argument_token s i).kind
unfolding argument_token newline_token item_token kind_no
argument_kind s i = go (leb (length s) i) (is_space (byte_at s i)) (eqb (byte_at s i) 0x0A) (eqb (i + 1) (length s)) (item_at s i)
  where
    item : (t : Option ℕ) → 4 ≤ kind_no (item_token s i t).kind
    item None = omega arith
    item (Some j) = by_end (parted s j) (eqb (byte_at s i) 0x22)
      where
        by_end : (a b : Bool) → 4 ≤ kind_no (cond a (cond b (token TokenKind.Quoted i j) (token TokenKind.Text i j)) (token TokenKind.Unlisted i (run_at is_text s i))).kind
        by_end true true = omega arith
        by_end true false = omega arith
        by_end false b = omega arith

    go : (a b c d : Bool) (t : Option ℕ) → 4 ≤ kind_no (cond a (end_token s) (cond b (token TokenKind.Space i (run_at is_space s i))
        (cond c (cond d (token TokenKind.Newline i (i + 1)) (token TokenKind.Left i (length s))) (item_token s i t)))).kind
    go true b c d t = omega arith
    go false true c d t = omega arith
    go false false true true t = omega arith
    go false false true false t = omega arith
    go false false false d t = item t

module _ (s : List ℕ) (k : TokenKind) (of-lead : kind_no k < 4) where
  -- behind the lead there is none of such a kind
  none_from : (n i : ℕ) → (lead_of s).argument ≤ i → of_kind k (tokens_from n s i) ≡ []
  unfolding tokens_from of_kind
  none_from zero i h = refl
  none_from (suc n) i h = go (dec_lt i (length s)) (none_from n (token_at s i).stop)
    where
      go : Dec (i < length s) → ((lead_of s).argument ≤ (token_at s i).stop → of_kind k (tokens_from n s (token_at s i).stop) ≡ []) → of_kind k (tokens_from (suc n) s i) ≡ []
      go (no l) r = ap (of_kind k) (from_end s (suc n) i (omega arith))
      go (yes l) r =
          let g = token_good s i l in
          let q : 4 ≤ kind_no (token_at s i).kind = rw (token_behind s i h) (argument_kind s i) in
          let e : eqb (kind_no (token_at s i).kind) (kind_no k) ≡ false = ne_eqb (kind_no (token_at s i).kind) (kind_no k) (λ f. omega arith) in
          ap (of_kind k) (from_on s n i l) ∙ rw (e, of_kind) (r (omega (arith, g.past)))

  lead_kind : of_kind k (tokens_of s) ≡ of_kind k (tokens_in 0 (pieces (lead_of s)))
  unfolding tokens_at
  lead_kind =
      ap (of_kind k) (lead_tokens s)
      ∙ kind_append k (tokens_in 0 (pieces (lead_of s))) (tokens_at s (lead_of s).argument)
      ∙ ap (λ (ts : List Token). of_kind k (tokens_in 0 (pieces (lead_of s))) ++ ts) (none_from (length s - (lead_of s).argument) (lead_of s).argument (omega arith))
      ∙ append-nil (of_kind k (tokens_in 0 (pieces (lead_of s))))

-- what an accepted reading finds -------------------------------------------------------------------------------------------------------

one_bang : (s : List ℕ) (k : ℕ) → length (some TokenKind.Bang k (skip_byte s k 0x21)) ≡ cond (not (eqb (skip_byte s k 0x21) k)) 1 0
unfolding some skip_byte
one_bang s k = go (eqb (byte_at s k) 0x21)
  where
    go : (b : Bool) → length {A = Token} (cond (ltb k (cond b (k + 1) k)) (token TokenKind.Bang k (cond b (k + 1) k) ∷ []) []) ≡ cond (not (eqb (cond b (k + 1) k) k)) 1 0
    go true = rw (lt-ltb k (k + 1) (omega arith), ne_eqb (k + 1) k (λ e. omega arith))
    go false = rw (le-ltb k k (omega arith), eq-eqb k k refl)

some_none : (k : TokenKind) (i : ℕ) → some k i i ≡ []
unfolding some
some_none k i = rw (le-ltb i i (omega arith))

module _ (s : List ℕ) (d : CommandDescription) (h : reading_of s ≡ Ok d) where
  read : Parsed s d
  read = parsed s d h

  -- the word token is the word that the reading finds: there is one, or none where that word is empty
  pub tokens_word : of_kind TokenKind.Word (tokens_of s) ≡ some TokenKind.Word d.word d.end
  unfolding pieces pieces_of kind_no lead_word
  tokens_word =
      lead_kind s TokenKind.Word (omega arith)
      ∙ pieces_kind TokenKind.Word 0 (pieces (lead_of s))
      ∙ append-nil (some TokenKind.Word (lead_of s).range (lead_of s).word)
      ∙ ap (λ (l : Lead). some TokenKind.Word l.range l.word) (lead_parsed s d read)

  -- the range token is what stands before the word
  pub tokens_range : of_kind TokenKind.Range (tokens_of s) ≡ some TokenKind.Range (start_of s) d.word
  unfolding pieces pieces_of kind_no lead_word
  tokens_range =
      lead_kind s TokenKind.Range (omega arith)
      ∙ pieces_kind TokenKind.Range 0 (pieces (lead_of s))
      ∙ append-nil (some TokenKind.Range (lead_of s).start (lead_of s).range)
      ∙ ap (λ (l : Lead). some TokenKind.Range l.start l.range) (lead_parsed s d read)

  -- there is one bang token, or none where the reading finds no bang
  pub tokens_bang : length (of_kind TokenKind.Bang (tokens_of s)) ≡ cond d.bang 1 0
  unfolding pieces pieces_of kind_no lead_word
  tokens_bang =
      ap length
      (lead_kind s TokenKind.Bang (omega arith)
      ∙ pieces_kind TokenKind.Bang 0 (pieces (lead_of s))
      ∙ append-nil (some TokenKind.Bang (lead_of s).newline (lead_of s).bang)
      ∙ ap (λ (l : Lead). some TokenKind.Bang l.newline l.bang) (lead_parsed s d read))
      ∙ one_bang s read.next
      ∙ ap (λ (b : Bool). cond b 1 0) read.banged

  -- behind the spaces of the lead the argument starts
  pub argument_read : (lead_of s).argument ≡ d.argument
  unfolding lead_word
  argument_read = ap (λ (l : Lead). l.argument) (lead_parsed s d read) ∙ read.argued

  -- nothing of the lead is left over, and nothing of it is of an argument that is no list
  lead_left_lem : of_kind TokenKind.Left (tokens_in 0 (pieces (lead_of s))) ≡ []
  unfolding pieces pieces_of kind_no lead_word
  lead_left_lem =
      pieces_kind TokenKind.Left 0 (pieces (lead_of s))
      ∙ append-nil (some TokenKind.Left (lead_of s).blank (lead_of s).argument)
      ∙ ap (λ (l : Lead). some TokenKind.Left l.blank l.argument) (lead_parsed s d read)
      ∙ some_none TokenKind.Left (run_at is_space s (skip_byte s read.next 0x21))

  lead_unlisted : of_kind TokenKind.Unlisted (tokens_in 0 (pieces (lead_of s))) ≡ []
  unfolding pieces pieces_of kind_no
  lead_unlisted = pieces_kind TokenKind.Unlisted 0 (pieces (lead_of s))

  -- of a kind that the lead has not, the tokens are those of the argument and of what stands behind it
  kind_behind : (k : TokenKind) → of_kind k (tokens_in 0 (pieces (lead_of s))) ≡ [] → of_kind k (tokens_of s) ≡ of_kind k (tokens_at s d.argument)
  kind_behind k h =
      ap (of_kind k) (lead_tokens s)
      ∙ kind_append k (tokens_in 0 (pieces (lead_of s))) (tokens_at s (lead_of s).argument)
      ∙ ap (λ (ts : List Token). ts ++ of_kind k (tokens_at s (lead_of s).argument)) h
      ∙ ap (λ (n : ℕ). of_kind k (tokens_at s n)) argument_read

  pub left_behind : of_kind TokenKind.Left (tokens_of s) ≡ of_kind TokenKind.Left (tokens_at s d.argument)
  left_behind = kind_behind TokenKind.Left lead_left_lem

  pub unlisted_behind : of_kind TokenKind.Unlisted (tokens_of s) ≡ of_kind TokenKind.Unlisted (tokens_at s d.argument)
  unlisted_behind = kind_behind TokenKind.Unlisted lead_unlisted
