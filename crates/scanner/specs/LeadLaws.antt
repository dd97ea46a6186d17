-- Laws of a line's lead: its pieces stand one after the other, within the line; of an accepted reading they are what the reading finds.
-- Assumes nothing.
use Rattle.std.specs.Prelude.{◌≡◌, refl, Bool, true, false, cond, List, [], ◌∷◌, ◌++◌, ℕ, ◌<◌, ◌≤◌, ltb, length, take, Ok, Err, Option, Some, None}
use Rattle.std.proofs.Common.{◌∙◌, ap, arith, ltb-true, ltb-false, le-ltb}
use Rattle.scan.specs.Bytes.{is_space, is_colon}
use Rattle.scan.specs.Scan.{run_at}
use Rattle.scan.specs.RunLaws.{run_at_le, run_at_within}
use Rattle.ranges.specs.Range.{range_at, RangeRead}
use Rattle.ranges.specs.Bounds.{RangeIn, range_at_in}
use Rattle.reading.specs.Line.{skip_byte, word_at, start_of}
use Rattle.reading.specs.LineLaws.{skip_in, WordIn, word_at_in, AtWord, Parsed}
use Rattle.reading.specs.declared.line.CommandDescription.{CommandDescription}
use Rattle.scanner.specs.Tokens.{token, lead_left, lead_word, lead_range, lead_of, Piece, pieces, up_to, piece_at}
use Rattle.scanner.specs.declared.token.TokenKind.{TokenKind}
use Rattle.scanner.specs.declared.token.Token.{Token}
use Rattle.scanner.specs.declared.token.Lead.{Lead}

-- pieces one after the other ---------------------------------------------------------------------------------------------------------

-- pieces that go from i up to e, some of them perhaps empty
abbrev pub Upto : ℕ → ℕ → List Piece → Type 0
Upto i e [] = i ≡ e
Upto i e (p ∷ ps) = (i ≤ p.stop) × Upto p.stop e ps

pub upto_le : (i e : ℕ) (ps : List Piece) → Upto i e ps → i ≤ e
upto_le i e [] h = omega arith
upto_le i e (p ∷ ps) h =
    let q = h.0 in
    let r = upto_le p.stop e ps h.1 in
    omega arith

-- a token that starts at i, has at least one byte, and stops at e or before
pub record Good (i e : ℕ) (t : Token) : Type 0 where
  pub starts : t.start ≡ i
  pub past : i < t.stop
  pub inside : t.stop ≤ e

pub piece_good : (j e i : ℕ) (ps : List Piece) → Upto j e ps → j ≤ i → i < e → Good i e (piece_at ps i)
unfolding piece_at up_to
piece_good j e i [] h k l = absurd (omega arith)
piece_good j e i (p ∷ ps) h k l = go (ltb i p.stop) refl (λ m. piece_good p.stop e i ps h.1 m l)
  where
    go : (b : Bool) → ltb i p.stop ≡ b → (p.stop ≤ i → Good i e (piece_at ps i)) → Good i e (cond b (token p.kind i p.stop) (piece_at ps i))
    go true q r = record { starts = refl; past = ltb-true i p.stop q; inside = upto_le p.stop e ps h.1 }
    go false q r = r (ltb-false i p.stop q)

-- each piece has the property Q
abbrev pub AllPieces : (TokenKind → ℕ → Type 0) → List Piece → Type 0
AllPieces Q [] = Unit {0}
AllPieces Q (p ∷ ps) = Q p.kind p.stop × AllPieces Q ps

-- and so the one that i stands in
pub piece_all : (Q : TokenKind → ℕ → Type 0) (j e i : ℕ) (ps : List Piece) → Upto j e ps → AllPieces Q ps → j ≤ i → i < e → Q (piece_at ps i).kind (piece_at ps i).stop
unfolding piece_at up_to
piece_all Q j e i [] u f k l = absurd (omega arith)
piece_all Q j e i (p ∷ ps) u f k l = go (ltb i p.stop) refl (λ m. piece_all Q p.stop e i ps u.1 f.1 m l)
  where
    go : (b : Bool) → ltb i p.stop ≡ b → (p.stop ≤ i → Q (piece_at ps i).kind (piece_at ps i).stop) →
        Q (cond b (token p.kind i p.stop) (piece_at ps i)).kind (cond b (token p.kind i p.stop) (piece_at ps i)).stop
    go true q r = f.0
    go false q r = r (ltb-false i p.stop q)

-- pieces ps up to e, and others behind them: what starts before e stops there or before; from e on only the others count
pub piece_before : (j e i : ℕ) (ps qs : List Piece) → Upto j e ps → j ≤ i → i < e → (piece_at (ps ++ qs) i).stop ≤ e
unfolding piece_at up_to
piece_before j e i [] qs u k l = absurd (omega arith)
piece_before j e i (p ∷ ps) qs u k l = go (ltb i p.stop) refl (λ m. piece_before p.stop e i ps qs u.1 m l)
  where
    go : (b : Bool) → ltb i p.stop ≡ b → (p.stop ≤ i → (piece_at (ps ++ qs) i).stop ≤ e) → (cond b (token p.kind i p.stop) (piece_at (ps ++ qs) i)).stop ≤ e
    go true q r = upto_le p.stop e ps u.1
    go false q r = r (ltb-false i p.stop q)

pub piece_behind : (j e i : ℕ) (ps qs : List Piece) → Upto j e ps → e ≤ i → piece_at (ps ++ qs) i ≡ piece_at qs i
unfolding piece_at up_to
piece_behind j e i [] qs u h = refl
piece_behind j e i (p ∷ ps) qs u h =
    let l = upto_le p.stop e ps u.1 in
    rw (le-ltb i p.stop (omega arith)) (piece_behind p.stop e i ps qs u.1 h)

-- the lead's pieces ------------------------------------------------------------------------------------------------------------------

record Ordered (e : ℕ) (l : Lead) : Type 0 where
  colons_from : l.spaces ≤ l.colons
  start_from : l.colons ≤ l.start
  range_from : l.start ≤ l.range
  word_from : l.range ≤ l.word
  newline_from : l.word ≤ l.newline
  bang_from : l.newline ≤ l.bang
  blank_from : l.bang ≤ l.blank
  argument_from : l.blank ≤ l.argument
  inside : l.argument ≤ e

module _ (s : List ℕ) (a b c : ℕ) (ab : a ≤ b) (bc : b ≤ c) where
  left_ordered : (d : ℕ) → c ≤ d → d ≤ length s → Ordered (length s) (lead_left s a b c d)
  unfolding lead_left
  left_ordered d h k =
      record {
        colons_from = ab;
        start_from = bc;
        range_from = h;
        word_from = omega arith;
        newline_from = omega arith;
        bang_from = omega arith;
        blank_from = omega arith;
        argument_from = k;
        inside = omega arith;
      }

  word_ordered : (d : ℕ) (o : Option (ℕ × ℕ)) → c ≤ d → d ≤ length s → WordIn s d o → Ordered (length s) (lead_word s a b c d o)
  unfolding lead_word
  word_ordered d None h k w = left_ordered d h k
  word_ordered d (Some (e, n)) h k w =
      let f = skip_in s n 0x21 (omega arith) w.inside in
      record {
        colons_from = ab;
        start_from = bc;
        range_from = h;
        word_from = w.onward;
        newline_from = w.further;
        bang_from = f.from;
        blank_from = run_at_le is_space s (skip_byte s n 0x21);
        argument_from = omega arith;
        inside = run_at_within is_space s (skip_byte s n 0x21) f.to;
      }

  range_ordered : (g : RangeRead) → c ≤ length s → RangeIn c (length s) g → Ordered (length s) (lead_range s a b c g)
  unfolding lead_range
  range_ordered (Ok None) h r = word_ordered c (word_at s c) (omega arith) h (word_at_in s c h)
  range_ordered (Ok (Some (g, d))) h r = word_ordered d (word_at s d) r.0.from r.0.to (word_at_in s d r.0.to)
  range_ordered (Err why) h r = left_ordered c (omega arith) h

ordered : (s : List ℕ) → Ordered (length s) (lead_of s)
unfolding lead_of
ordered s =
    let a = run_at is_space s 0 in
    let b = run_at is_colon s a in
    let c = run_at is_space s b in
    let h = run_at_within is_space s b (run_at_within is_colon s a (run_at_within is_space s 0 (omega arith))) in
    range_ordered s a b c (run_at_le is_colon s a) (run_at_le is_space s b) (range_at s c) h (range_at_in s c h)

pub lead_inside : (s : List ℕ) → (lead_of s).argument ≤ length s
lead_inside s = (ordered s).inside

pub lead_upto : (s : List ℕ) → Upto 0 (lead_of s).argument (pieces (lead_of s))
unfolding pieces
lead_upto s =
    let o = ordered s in
    (omega arith, (o.colons_from, (o.start_from, (o.range_from, (o.word_from, (o.newline_from, (o.bang_from, (o.blank_from, (o.argument_from, refl)))))))))

-- all pieces but the last, which is what is left over
abbrev pub read_pieces : Lead → List Piece
read_pieces l = take 8 (pieces l)

pub pieces_left : (l : Lead) → pieces l ≡ read_pieces l ++ record { kind = TokenKind.Left; stop = l.argument } ∷ []
unfolding pieces
pieces_left l = refl

pub read_upto : (s : List ℕ) → Upto 0 (lead_of s).blank (read_pieces (lead_of s))
unfolding pieces
read_upto s =
    let o = ordered s in
    (omega arith, (o.colons_from, (o.start_from, (o.range_from, (o.word_from, (o.newline_from, (o.bang_from, (o.blank_from, refl))))))))

-- the lead of an accepted reading ----------------------------------------------------------------------------------------------------

range_parsed : (s : List ℕ) (a b c w : ℕ) (g : RangeRead) → AtWord c g w → lead_range s a b c g ≡ lead_word s a b c w (word_at s w)
unfolding lead_range
range_parsed s a b c w (Ok None) h = ap (λ (n : ℕ). lead_word s a b c n (word_at s n)) h
range_parsed s a b c w (Ok (Some (g, d))) h = ap (λ (n : ℕ). lead_word s a b c n (word_at s n)) h
range_parsed s a b c w (Err why) h = absurd h

pub lead_parsed : (s : List ℕ) (d : CommandDescription) (h : Parsed s d) →
    lead_of s ≡ lead_word s (run_at is_space s 0) (run_at is_colon s (run_at is_space s 0)) (start_of s) d.word (Some (d.end, h.next))
unfolding lead_of start_of
lead_parsed s d h =
    ap (lead_range s (run_at is_space s 0) (run_at is_colon s (run_at is_space s 0)) (start_of s)) h.ranged
    ∙ range_parsed s (run_at is_space s 0) (run_at is_colon s (run_at is_space s 0)) (start_of s) d.word d.range h.placed
    ∙ ap (lead_word s (run_at is_space s 0) (run_at is_colon s (run_at is_space s 0)) (start_of s) d.word) h.worded
