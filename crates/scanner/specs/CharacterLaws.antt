-- The tokens of a line that is UTF-8 cut no character: the bytes of each are UTF-8.
-- Look for `tokens_utf8`. Assumes nothing.
use Rattle.std.specs.Prelude.{◌≡◌, Bool, cond, ◌||◌, List, Ok, Err, Option, Some, None}
use Rattle.std.proofs.Math.Path.{refl, sym, ap}
use Rattle.std.proofs.Common.{◌∙◌, arith, eqb-true, leb-true, leb-false}
use Rattle.std.proofs.Math.Bool.{true, false}
use Rattle.std.proofs.lemmas.Bool.{false≢true, lt-leb}
use Prim.Native.Nat.{ℕ, zero, suc, ◌+◌, ◌-◌, ◌<◌, ◌≤◌}
use Rattle.std.proofs.Math.Decide.{dec_lt}
use Rattle.std.proofs.Math.Dec.{eqb, leb}
use Rattle.std.proofs.Math.ListN.{length}
use Rattle.scan.specs.Bytes.{is_space, is_colon, is_text}
use Rattle.scan.specs.Scan.{run_at, byte_at}
use Rattle.ranges.specs.Range.{range_at, RangeRead}
use Rattle.lists.specs.Lists.{item_at}
use Rattle.reading.specs.Line.{skip_byte, word_at}
use Rattle.utf8.specs.Utf8.{utf8_at, whole, is_utf8}
use Rattle.scanner.specs.Tokens.{token, lead_left, lead_word, lead_range, lead_of, pieces, parted, newline_token, item_token, argument_token, token_at, tokens_from, tokens_at, tokens_of}
use Rattle.scanner.specs.Cover.{Utf8s}
use Rattle.scanner.specs.LeadLaws.{AllPieces, piece_all, lead_upto}
use Rattle.scanner.specs.TokensLaws.{token_good, from_end, from_on}
use Rattle.scanner.specs.ReadLaws.{token_lead, token_behind}
use Rattle.scanner.specs.StopLaws.{line_end}
use Rattle.scanner.specs.SplitLaws.{part_utf8, end_whole, ascii_whole}
use Rattle.scanner.specs.RangeAsciiLaws.{space_ascii, colon_ascii, run_same, byte_same, skip_same, RangeSame, range_same, WordSame, word_same}
use Rattle.scanner.specs.declared.token.TokenKind.{TokenKind}
use Rattle.scanner.specs.declared.token.Lead.{Lead}

module _ (s : List ℕ) where
  -- the place i cuts no character
  abbrev Whole : ℕ → Type 0
  Whole i = utf8_at whole s i ≡ true

  -- the lead ------------------------------------------------------------------------------------------------------------------------------

  -- each piece ends at such a place
  abbrev Wholes : Lead → Type 0
  Wholes l = AllPieces (λ (k : TokenKind) (n : ℕ). Whole n) (pieces l)

  module _ (a b c : ℕ) (wa : Whole a) (wb : Whole b) (wc : Whole c) where
    left_whole : (d : ℕ) → Whole d → Wholes (lead_left s a b c d)
    unfolding pieces lead_left
    left_whole d w = (wa, (wb, (wc, (w, (w, (w, (w, (w, (end_whole s (length s) (omega arith), tt)))))))))

    word_whole : (d : ℕ) (o : Option (ℕ × ℕ)) → Whole d → WordSame s d o → Wholes (lead_word s a b c d o)
    unfolding pieces lead_word
    word_whole d None w h = left_whole d w
    word_whole d (Some (e, k)) w h =
        let we : Whole e = sym h.0 ∙ w in
        let wk : Whole k = sym h.1 ∙ w in
        let wf : Whole (skip_byte s k 0x21) = sym (skip_same s k 0x21 (omega arith) (omega arith)) ∙ wk in
        let wg : Whole (run_at is_space s (skip_byte s k 0x21)) = sym (run_same s is_space space_ascii (skip_byte s k 0x21)) ∙ wf in
        (wa, (wb, (wc, (w, (we, (wk, (wf, (wg, (wg, tt)))))))))

    range_whole : (g : RangeRead) → RangeSame s c g → Wholes (lead_range s a b c g)
    unfolding lead_range
    range_whole (Ok None) h = word_whole c (word_at s c) wc (word_same s c)
    range_whole (Ok (Some (g, d))) h = word_whole d (word_at s d) (sym h ∙ wc) (word_same s d)
    range_whole (Err why) h = left_whole c wc

  module _ (u : is_utf8 s ≡ true) where
    start_whole : Whole 0
    unfolding is_utf8
    start_whole = u

    lead_whole : Wholes (lead_of s)
    unfolding lead_of
    lead_whole =
        let a = run_at is_space s 0 in
        let b = run_at is_colon s a in
        let c = run_at is_space s b in
        let wa : Whole a = sym (run_same s is_space space_ascii 0) ∙ start_whole in
        let wb : Whole b = sym (run_same s is_colon colon_ascii a) ∙ wa in
        let wc : Whole c = sym (run_same s is_space space_ascii b) ∙ wb in
        range_whole a b c wa wb wc (range_at s c) (range_same s c)

    -- the argument ---------------------------------------------------------------------------------------------------------------------------

    -- where an item may end
    parted_whole : (j : ℕ) → parted s j ≡ true → Whole j
    unfolding parted
    parted_whole j h = go (leb (length s) j) (is_space (byte_at s j)) (eqb (byte_at s j) 0x0A) refl refl refl h
      where
        here : byte_at s j < 0x80 → leb (length s) j ≡ false → Whole j
        here k e = ascii_whole s j u (leb-false (length s) j e) k

        go : (a b c : Bool) → leb (length s) j ≡ a → is_space (byte_at s j) ≡ b → eqb (byte_at s j) 0x0A ≡ c → (a || (b || c)) ≡ true → Whole j
        go true b c p q r k = end_whole s j (leb-true (length s) j p)
        go false true c p q r k = here (space_ascii (byte_at s j) q) p
        go false false true p q r k = here (omega (arith, eqb-true (byte_at s j) 0x0A r)) p
        go false false false p q r k = absurd (false≢true k)

    -- where an argument ends
    text_whole : (i : ℕ) → i ≤ length s → Whole (run_at is_text s i)
    text_whole i h = go (dec_lt (run_at is_text s i) (length s))
      where
        go : Dec (run_at is_text s i < length s) → Whole (run_at is_text s i)
        go (yes l) = ascii_whole s (run_at is_text s i) u l (omega (arith, line_end s i (run_at is_text s i) refl l))
        go (no l) = end_whole s (run_at is_text s i) (omega arith)

    module _ (i : ℕ) (h : i < length s) (w : Whole i) where
      item_whole : (t : Option ℕ) → Whole (item_token s i t).stop
      unfolding item_token
      item_whole None = text_whole i (omega arith)
      item_whole (Some j) = go (parted s j) (eqb (byte_at s i) 0x22) refl
        where
          go : (a b : Bool) → parted s j ≡ a → Whole (cond a (cond b (token TokenKind.Quoted i j) (token TokenKind.Text i j)) (token TokenKind.Unlisted i (run_at is_text s i))).stop
          go true true e = parted_whole j e
          go true false e = parted_whole j e
          go false b e = text_whole i (omega arith)

      argument_whole : Whole (argument_token s i).stop
      unfolding argument_token newline_token
      argument_whole = rw (lt-leb (length s) i h) (go (is_space (byte_at s i)) (eqb (byte_at s i) 0x0A) (eqb (i + 1) (length s)) refl)
        where
          go : (b c d : Bool) → eqb (byte_at s i) 0x0A ≡ c → Whole (cond b (token TokenKind.Space i (run_at is_space s i))
              (cond c (cond d (token TokenKind.Newline i (i + 1)) (token TokenKind.Left i (length s))) (item_token s i (item_at s i)))).stop
          go true c d e = sym (run_same s is_space space_ascii i) ∙ w
          go false true true e = sym (byte_same s i 0x0A (omega arith) (omega arith) (eqb-true (byte_at s i) 0x0A e)) ∙ w
          go false true false e = end_whole s (length s) (omega arith)
          go false false d e = item_whole (item_at s i)

      token_whole : Whole (token_at s i).stop
      token_whole = go (dec_lt i (lead_of s).argument)
        where
          go : Dec (i < (lead_of s).argument) → Whole (token_at s i).stop
          go (yes l) =
              rw (token_lead s i l)
              (piece_all (λ (k : TokenKind) (n : ℕ). Whole n) 0 (lead_of s).argument i (pieces (lead_of s)) (lead_upto s) lead_whole (omega arith) l)
          go (no l) = rw (token_behind s i (omega arith)) argument_whole

    -- the tokens -----------------------------------------------------------------------------------------------------------------------------

    utf8_from_lem : (n i : ℕ) → Whole i → Utf8s s (tokens_from n s i)
    unfolding tokens_from
    utf8_from_lem zero i w = tt
    utf8_from_lem (suc n) i w = go (dec_lt i (length s)) (utf8_from_lem n (token_at s i).stop)
      where
        go : Dec (i < length s) → (Whole (token_at s i).stop → Utf8s s (tokens_from n s (token_at s i).stop)) → Utf8s s (tokens_from (suc n) s i)
        go (no l) r = rw (from_end s (suc n) i (omega arith)) tt
        go (yes l) r =
            let g = token_good s i l in
            let t = token_whole i l w in
            let v : Whole (token_at s i).start = ap (utf8_at whole s) g.starts ∙ w in
            rw (from_on s n i l) (part_utf8 s (token_at s i).start (token_at s i).stop (omega (arith, g.starts, g.past)) v t, r t)

    -- the bytes of each token are UTF-8
    pub tokens_utf8 : Utf8s s (tokens_of s)
    unfolding tokens_of tokens_at
    tokens_utf8 = utf8_from_lem (length s - 0) 0 start_whole
