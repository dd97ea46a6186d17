-- What is left over of a line whose reading fails, or has a number that is too large: its last token, which goes up to the end.
-- Look for `failed_left`. Assumes nothing.
use Rattle.std.specs.Prelude.{◌≡◌, Bool, true, false, cond, not, eqb, leb, Ok, Err, Option, Some, None}
use Rattle.std.proofs.Math.Path.{refl, ap}
use Rattle.std.proofs.Common.{◌∙◌, subst}
use mathlib.Core.List.{List, [], ◌∷◌}
use Prim.Native.Nat.{ℕ, zero, suc, ◌+◌, ◌-◌, ◌<◌, ◌≤◌}
use native.Mathlib.Omega.{arith}
use Rattle.std.proofs.Math.Decide.{dec_lt}
use Rattle.std.proofs.Math.ListN.{length, drop_of_length-le, get_or-eq_default}
use borrow.Author.Tests.{leb-false, eqb-false, lt-ltb, lt-leb, eq-eqb, ne_eqb}
use Rattle.scan.specs.Bytes.{is_space, is_colon, is_word, is_text}
use Rattle.scan.specs.Scan.{run_from, run_at, byte_at, digits_from, digits_at}
use Rattle.scan.specs.RunLaws.{run_at_le, run_at_within}
use Rattle.ranges.specs.Range.{sign_atom, number_or, atom_at, offsets_from, offsets_at, with_offsets, after_atom, ending_at, after_first, range_at, RangeRead}
use Rattle.ranges.specs.declared.range.RangeEndingType.{RangeEndingType}
use Rattle.reading.specs.Line.{skip_byte, word_at, rest_at, after_word, after_range, start_of, reading_of, CommandRead}
use Rattle.reading.specs.declared.line.CommandDescription.{CommandDescription}
use Rattle.scanner.specs.Tokens.{token, lead_left, lead_word, lead_range, lead_of, Piece, up_to, piece_at, newline_token, argument_token, token_at, tokens_at, tokens_of}
use Rattle.scanner.specs.Cover.{LeftOver}
use Rattle.scanner.specs.LeadLaws.{piece_before, piece_behind, lead_inside, read_pieces, pieces_left, read_upto}
use Rattle.scanner.specs.TokensLaws.{token_good, from_end, tokens_on_lem}
use Rattle.scanner.specs.ReadLaws.{token_lead, token_behind}
use Rattle.scanner.specs.StopLaws.{line_end, line_stop}
use Rattle.scanner.specs.declared.token.TokenKind.{TokenKind}
use Rattle.scanner.specs.declared.token.Token.{Token}
use Rattle.scanner.specs.declared.token.Lead.{Lead}
use Rattle.limits.specs.declared.refusal.Refusal.{Refusal}

-- up to a place that no token passes --------------------------------------------------------------------------------------------------

module _ (s : List ℕ) where
  tokens_end : tokens_at s (length s) ≡ []
  unfolding tokens_at
  tokens_end = from_end s (length s - length s) (length s) (omega arith)

  -- all from e on is left over
  left_here : (e : ℕ) → e < length s → token_at s e ≡ token TokenKind.Left e (length s) → LeftOver s (tokens_at s e)
  left_here e h q = record {
    before = [];
    from = e;
    inside = h;
    is =
        tokens_on_lem s e h
        ∙ ap (λ (t : Token). t ∷ tokens_at s t.stop) q
        ∙ ap (λ (ts : List Token). token TokenKind.Left e (length s) ∷ ts) tokens_end;
  }

  -- and no token passes e: so are the last bytes of the line
  module _ (e : ℕ) (h : e < length s) (q : token_at s e ≡ token TokenKind.Left e (length s)) (p : (i : ℕ) → i < e → (token_at s i).stop ≤ e) where
    left_same : (i : ℕ) → e ≡ i → LeftOver s (tokens_at s i)
    left_same i w = subst (λ (k : ℕ). LeftOver s (tokens_at s k)) w (left_here e h q)

    left_later : (n i : ℕ) → e ≤ n + i → i ≤ e → LeftOver s (tokens_at s i)
    left_later zero i m l = left_same i (omega arith)
    left_later (suc n) i m l = go (dec_lt i e) (left_later n (token_at s i).stop)
      where
        go : Dec (i < e) → (e ≤ n + (token_at s i).stop → (token_at s i).stop ≤ e → LeftOver s (tokens_at s (token_at s i).stop)) → LeftOver s (tokens_at s i)
        go (no k) r = left_same i (omega arith)
        go (yes k) r =
            let g = token_good s i (omega arith) in
            let o = r (omega (arith, g.past)) (p i k) in
            record {
              before = token_at s i ∷ o.before;
              from = o.from;
              inside = o.inside;
              is = tokens_on_lem s i (omega arith) ∙ ap (λ (ts : List Token). token_at s i ∷ ts) o.is;
            }

    left_from : LeftOver s (tokens_of s)
    unfolding tokens_of
    left_from = left_later e 0 (omega arith) (omega arith)

-- a reading that fails in its lead ----------------------------------------------------------------------------------------------------

module _ (s : List ℕ) (h : (lead_of s).blank < length s) (g : (lead_of s).argument ≡ length s) where
  -- past the pieces that are read
  blank_token : token_at s (lead_of s).blank ≡ token TokenKind.Left (lead_of s).blank (length s)
  unfolding piece_at up_to
  blank_token =
      let l = lead_of s in
      let k : l.blank < l.argument = omega arith in
      token_lead s l.blank k
      ∙ ap (λ (ps : List Piece). piece_at ps l.blank) (pieces_left l)
      ∙ piece_behind 0 l.blank l.blank (read_pieces l) (record { kind = TokenKind.Left; stop = l.argument } ∷ []) (read_upto s) (omega arith)
      ∙ rw (lt-ltb l.blank l.argument k) (ap (token TokenKind.Left l.blank) g)

  blank_before : (i : ℕ) → i < (lead_of s).blank → (token_at s i).stop ≤ (lead_of s).blank
  blank_before i k =
      let l = lead_of s in
      rw (token_lead s i (omega arith), pieces_left l)
      (piece_before 0 l.blank i (read_pieces l) (record { kind = TokenKind.Left; stop = l.argument } ∷ []) (read_upto s) (omega arith) k)

  lead_left_lem : LeftOver s (tokens_of s)
  lead_left_lem = left_from s (lead_of s).blank h blank_token blank_before

left_of : (s : List ℕ) (a b c d : ℕ) → lead_of s ≡ lead_left s a b c d → d < length s → LeftOver s (tokens_of s)
unfolding lead_left
left_of s a b c d e h =
    let p : (lead_of s).blank ≡ d = ap (λ (l : Lead). l.blank) e in
    lead_left_lem s (omega arith) (ap (λ (l : Lead). l.argument) e)

-- a reading that fails behind its argument --------------------------------------------------------------------------------------------

module _ (s : List ℕ) (e : ℕ) (r : run_at is_text s (lead_of s).argument ≡ e) (f : skip_byte s e 0x0A ≡ length s → ⊥) where
  -- behind the argument stands a 0x0A that does not end the text
  line_inside : e < length s
  unfolding skip_byte
  line_inside = go (dec_lt e (length s))
    where
      go : Dec (e < length s) → e < length s
      go (yes k) = k
      go (no k) =
          let b : byte_at s e ≡ 0 = get_or-eq_default s 0 (omega arith) in
          let w : e ≡ length s = omega (arith, r, lead_inside s, run_at_within is_text s (lead_of s).argument (lead_inside s)) in
          absurd (f (rw b w))

  line_byte : byte_at s e ≡ 0x0A
  line_byte = line_end s (lead_of s).argument e r line_inside

  line_token : token_at s e ≡ token TokenKind.Left e (length s)
  unfolding argument_token newline_token is_space skip_byte
  line_token =
      let n : (e + 1 ≡ length s → ⊥) = λ w. f (rw line_byte w) in
      token_behind s e (omega (arith, r, run_at_le is_text s (lead_of s).argument))
      ∙ rw (lt-leb (length s) e line_inside, line_byte, ne_eqb (e + 1) (length s) n)

  line_left : LeftOver s (tokens_of s)
  line_left = left_from s e line_inside line_token (line_stop s e r)

-- the reading, part by part -----------------------------------------------------------------------------------------------------------

-- where no word can be read, a byte stands
abbrev BadInside : List ℕ → ℕ → Option (ℕ × ℕ) → Type 0
BadInside s i (Some (j, k)) = Unit {0}
BadInside s i None = i < length s

word_inside : (s : List ℕ) (i : ℕ) → BadInside s i (word_at s i)
unfolding word_at
word_inside s i = go (eqb (byte_at s i) 0x21) (eqb (run_at is_word s i) i) (leb (length s) i) (eqb (byte_at s i) 0x0A) refl
  where
    go : (a b c d : Bool) → leb (length s) i ≡ c → BadInside s i (cond a (Some (i + 1, i + 1))
        (cond b (cond c (Some (i, i)) (cond d (Some (i, i + 1)) None)) (Some (run_at is_word s i, run_at is_word s i))))
    go true b c d p = tt
    go false true true d p = tt
    go false true false true p = tt
    go false true false false p = leb-false (length s) i p
    go false false c d p = tt

-- at the end there is no range
module _ (s : List ℕ) (i : ℕ) (h : length s ≤ i) where
  ending_end : ending_at s i ≡ Ok (record { atom = RangeEndingType.Unspecified; from = i; to = i })
  unfolding ending_at atom_at digits_at digits_from run_from number_or sign_atom after_atom offsets_at offsets_from with_offsets
  ending_end = rw (drop_of_length-le s h, eq-eqb i i refl, get_or-eq_default s 0 h, drop_of_length-le s h)

  range_end : range_at s i ≡ Ok None
  unfolding range_at after_first
  range_end = rw (ending_end, get_or-eq_default s 0 h, eq-eqb i i refl)

large_inside : (s : List ℕ) (i : ℕ) (why : Refusal) → range_at s i ≡ Err why → i < length s
large_inside s i why h = go (dec_lt i (length s))
  where
    go : Dec (i < length s) → i < length s
    go (yes k) = k
    go (no k) =
        let e : range_at s i ≡ Ok None = range_end s i (omega arith) in
        let z : ◌≡◌ {A = ℕ} 0 1 = cc in
        absurd (omega arith)

-- what is left over, by what the reading is
abbrev Told : List ℕ → CommandRead → Type 0
Told s (Ok d) = Unit {0}
Told s (Err why) = LeftOver s (tokens_of s)

module _ (s : List ℕ) where
  rest_told : (g : RangeRead) (i j k b : ℕ) → (lead_of s).argument ≡ run_at is_space s b → Told s (rest_at s g i j k b)
  unfolding rest_at
  rest_told g i j k b h = go (eqb (skip_byte s e 0x0A) (length s)) refl
    where
      e : ℕ
      e = run_at is_text s (run_at is_space s b)

      d : CommandDescription
      d = record { range = g; word = i; end = j; bang = not (eqb b k); argument = run_at is_space s b; stop = e }

      go : (t : Bool) → eqb (skip_byte s e 0x0A) (length s) ≡ t → Told s (cond t (Ok d) (Err Refusal.ParseFailed))
      go true q = tt
      go false q = line_left s e (ap (run_at is_text s) h) (eqb-false (skip_byte s e 0x0A) (length s) q)

  word_told : (g : RangeRead) (a b c d : ℕ) (o : Option (ℕ × ℕ)) → BadInside s d o → lead_of s ≡ lead_word s a b c d o → Told s (after_word s g d o)
  unfolding lead_word after_word
  word_told g a b c d (Some (j, k)) q e = rest_told g d j k (skip_byte s k 0x21) (ap (λ (l : Lead). l.argument) e)
  word_told g a b c d None q e = left_of s a b c d e q

  range_told_lem : (a b c : ℕ) (g : RangeRead) → range_at s c ≡ g → lead_of s ≡ lead_range s a b c g → Told s (after_range s c g)
  unfolding lead_range after_range
  range_told_lem a b c (Ok None) q e = word_told (Ok None) a b c c (word_at s c) (word_inside s c) e
  range_told_lem a b c (Ok (Some (g, d))) q e = word_told (Ok (Some (g, d))) a b c d (word_at s d) (word_inside s d) e
  range_told_lem a b c (Err why) q e = left_of s a b c c e (large_inside s c why q)

  told : Told s (reading_of s)
  unfolding reading_of start_of lead_of
  told = range_told_lem (run_at is_space s 0) (run_at is_colon s (run_at is_space s 0)) (start_of s) (range_at s (start_of s)) refl refl

  -- where the reading fails, or has a number that is too large, the last token is left over and goes up to the end
  pub failed_left : (why : Refusal) → reading_of s ≡ Err why → LeftOver s (tokens_of s)
  failed_left why h = subst (Told s) h told
