-- What is said of the tokens of a line through its prefixes: they cover the line, as the scanner's do, and where no word of it names a
-- prefix they are the scanner's.
-- Look for `Tiles`, `line_tiles`, `line_plain`. Assumes nothing.
use Rattle.std.specs.Prelude.{◌≡◌, Bool}
use Rattle.std.proofs.Math.Path.{refl, ap}
use Rattle.std.proofs.Common.{◌∙◌}
use Rattle.std.proofs.Math.Bool.{true, false}
use mathlib.Core.List.{List, [], ◌∷◌, ◌++◌, append-nil}
use Prim.Native.Nat.{ℕ, zero, suc, ◌+◌, ◌-◌, ◌<◌, ◌≤◌}
use native.Mathlib.Omega.{arith}
use Rattle.std.proofs.Math.Decide.{dec_lt}
use Rattle.std.proofs.Math.ListN.{length, take}
use Rattle.std.proofs.Math.Seq.{take-length}
use Rattle.scan.specs.Scan.{part_of}
use Rattle.scanner.specs.Tokens.{lead_of, pieces, token_at, tokens_at, tokens_of}
use Rattle.scanner.specs.Cover.{Covers}
use Rattle.scanner.specs.LeadLaws.{piece_good, lead_inside, lead_upto}
use Rattle.scanner.specs.ReadLaws.{token_lead}
use Rattle.scanner.specs.TokensLaws.{token_good, tokens_end, tokens_cover, tokens_cover_at}
use Rattle.scanner.specs.declared.token.Token.{Token}
use Rattle.words.specs.Words.{Row}
use Rattle.tokens.specs.Through.{is_prefixed, word_number, prefix_number, Told, told_all, before, through, texts_end, line_tokens}
use Rattle.tokens.specs.ThroughLaws.{before_on, before_end, text_length, through_prefix, through_last, prefixed_past, texts_inside}

-- tokens that go from i up to e: each starts where the one before it stopped, and has at least one byte
abbrev pub Tiles : ℕ → ℕ → List Told → Type 0
Tiles i e [] = i ≡ e
Tiles i e (t ∷ ts) = (t.start ≡ i) × (i < t.stop) × Tiles t.stop e ts

tiles_append : (i m e : ℕ) (ts us : List Told) → Tiles i m ts → Tiles m e us → Tiles i e (ts ++ us)
tiles_append i m e [] us h k = rw h k
tiles_append i m e (t ∷ ts) us h k = (h.0, h.1, tiles_append t.stop m e ts us h.2 k)

-- the tokens of a text that stands at o
told_tiles : (w o i e : ℕ) (ts : List Token) → Covers i e ts → Tiles (o + i) (o + e) (told_all w o ts)
unfolding told_all
told_tiles w o i e [] h = ap (λ (n : ℕ). o + n) h
told_tiles w o i e (t ∷ ts) h =
    let p = h.1 in
    (ap (λ (n : ℕ). o + n) h.0, omega arith, told_tiles w o t.stop e ts h.2)

-- those before the argument cover the lead
lead_covers : (s : List ℕ) (n i : ℕ) → (lead_of s).argument - i ≤ n → i ≤ (lead_of s).argument → Covers i (lead_of s).argument (before (lead_of s).argument (tokens_at s i))
lead_covers s zero i h k = rw (before_end s (lead_of s).argument i (omega arith)) (omega arith)
lead_covers s (suc n) i h k = go (dec_lt i (lead_of s).argument) (lead_covers s n (token_at s i).stop)
  where
    go : Dec (i < (lead_of s).argument) →
        ((lead_of s).argument - (token_at s i).stop ≤ n → (token_at s i).stop ≤ (lead_of s).argument → Covers (token_at s i).stop (lead_of s).argument (before (lead_of s).argument (tokens_at s (token_at s i).stop))) →
        Covers i (lead_of s).argument (before (lead_of s).argument (tokens_at s i))
    go (no l) r = rw (before_end s (lead_of s).argument i (omega arith)) (omega arith)
    go (yes l) r =
        let inside : i < length s = omega (arith, lead_inside s) in
        let g = token_good s i inside in
        let p = piece_good 0 (lead_of s).argument i (pieces (lead_of s)) (lead_upto s) (omega arith) l in
        let stops : (token_at s i).stop ≤ (lead_of s).argument = rw (token_lead s i l) p.inside in
        rw (before_on s (lead_of s).argument i l inside) (g.starts, g.past, r (omega (arith, g.past)) stops)

module _ (table : List Row) (line : List ℕ) where
  through_tiles : (e n f : ℕ) → e ≤ length line → f ≤ e → e - f < n → Tiles f e (through table line e n f)
  unfolding tokens_of
  through_tiles e zero f inside h k = absurd (omega arith)
  through_tiles e (suc n) f inside h k = go (is_prefixed table (part_of line f e)) refl (through_tiles e n (f + (lead_of (part_of line f e)).argument) inside)
    where
      go : (b : Bool) → is_prefixed table (part_of line f e) ≡ b →
          (f + (lead_of (part_of line f e)).argument ≤ e → e - (f + (lead_of (part_of line f e)).argument) < n →
          Tiles (f + (lead_of (part_of line f e)).argument) e (through table line e n (f + (lead_of (part_of line f e)).argument))) →
          Tiles f e (through table line e (suc n) f)
      go true p r =
          let s = part_of line f e in
          let a = (lead_of s).argument in
          let size = text_length table line e f inside in
          let past = prefixed_past table s p in
          let start : f + 0 ≡ f = omega arith in
          let lead = told_tiles prefix_number f 0 a (before a (tokens_of s)) (lead_covers s a 0 (omega arith) (omega arith)) in
          rw (through_prefix table line e n f p)
          (tiles_append f (f + a) e (told_all prefix_number f (before a (tokens_of s))) (through table line e n (f + a)) (rw start at lead)
          (r (omega (arith, lead_inside s, size)) (omega (arith, lead_inside s, size, past))))
      go false p r =
          let s = part_of line f e in
          let start : f + 0 ≡ f = omega arith in
          let stop : f + length s ≡ e = omega (arith, text_length table line e f inside) in
          rw (through_last table line e n f p) (rw (start, stop) at (told_tiles word_number f 0 (length s) (tokens_of s) (tokens_cover s)))

  -- the first token starts at 0, each of the others where the one before it stopped, and the last stops at the line's end
  pub line_tiles : Tiles 0 (length line) (line_tokens table line)
  unfolding line_tokens
  line_tiles =
      let e = texts_end table line in
      let inside = texts_inside table line in
      let first : 0 + e ≡ e = omega arith in
      let last : 0 + length line ≡ length line = omega arith in
      tiles_append 0 e (length line) (through table line e (suc (length line)) 0) (told_all word_number 0 (tokens_at line e))
      (through_tiles e (suc (length line)) 0 inside (omega arith) (omega arith))
      (rw (first, last) at (told_tiles word_number 0 e (length line) (tokens_at line e) (tokens_cover_at line e inside)))

  -- where the line's word names no prefix, they are the scanner's
  pub line_plain : is_prefixed table line ≡ false → line_tokens table line ≡ told_all word_number 0 (tokens_of line)
  unfolding line_tokens texts_end told_all
  line_plain h =
      let whole : part_of line 0 (length line) ≡ line = ap (λ (n : ℕ). take n line) (minus_zero (length line)) ∙ take-length line in
      rw h
      (ap (λ (ts : List Told). ts ++ told_all word_number 0 (tokens_at line (length line))) (through_last table line (length line) (length line) 0 (ap (is_prefixed table) whole ∙ h) ∙ ap (λ (s : List ℕ). told_all word_number 0 (tokens_of s)) whole)
      ∙ ap (λ (ts : List Token). told_all word_number 0 (tokens_of line) ++ told_all word_number 0 ts) (tokens_end line (length line) (omega arith))
      ∙ append-nil (told_all word_number 0 (tokens_of line)))
    where
      minus_zero : (n : ℕ) → n - 0 ≡ n
      minus_zero n = omega arith
