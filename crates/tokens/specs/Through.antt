-- The tokens of a line through its prefixes, as the call over C tells them: the argument of a text whose word names a prefix is a text of
-- its own. A word names a prefix where lookup leads it to one, whatever its range and whether the line is then refused.
-- Look for `texts_end`, `through`, `line_tokens`; of the bytes `kind_number`, `told_bytes`; of the call `tokens_no`, `tokens_count`,
-- `tokens_store`. Assumes nothing.
use Rattle.std.specs.Prelude.{ℕ, zero, suc, ◌+◌, ◌*◌, Bool, true, false, cond, List, [], ◌∷◌, ◌++◌, eqb, leb, ltb, length}
use Rattle.limits.specs.Limits.{line_limit}
use Rattle.limits.specs.Refusals.{refusal_no}
use Rattle.limits.specs.declared.refusal.Refusal.{Refusal}
use Rattle.scan.specs.Bytes.{is_text}
use Rattle.scan.specs.Scan.{run_at, part_of}
use Rattle.reading.specs.Alone.{at_front}
use Rattle.scanner.specs.Tokens.{lead_of, tokens_at, tokens_of}
use Rattle.scanner.specs.declared.token.TokenKind.{TokenKind}
use Rattle.scanner.specs.declared.token.Token.{Token}
use Rattle.words.specs.Words.{Row}
use Rattle.fields.specs.Field.{two}
use Rattle.commands.specs.Run.{role_named}
use Rattle.commands.specs.declared.next.Role.{Role}
use Rattle.layout.specs.Layout.{session_of, table_of, sound}

-- prefixes -----------------------------------------------------------------------------------------------------------------------------------

abbrev pub is_prefix : Role → Bool
is_prefix Role.Tab = true
is_prefix (Role.Axis a) = true
is_prefix (Role.Side d) = true
is_prefix Role.Action = false

-- the word of a text names a prefix
unfoldable pub is_prefixed : List Row → List ℕ → Bool
is_prefixed table s = is_prefix (role_named table (part_of s (lead_of s).range (lead_of s).word))

-- tokens as they are told ----------------------------------------------------------------------------------------------------------------------

-- the number of a word that names no prefix, and of one that does
abbrev pub word_number : ℕ
word_number = 3

abbrev pub prefix_number : ℕ
prefix_number = 10

-- the number of a kind, where that of a word is w; the end is no line's
abbrev pub kind_number : ℕ → TokenKind → ℕ
kind_number w TokenKind.Space = 0
kind_number w TokenKind.Colon = 1
kind_number w TokenKind.Range = 2
kind_number w TokenKind.Word = w
kind_number w TokenKind.Bang = 4
kind_number w TokenKind.Text = 5
kind_number w TokenKind.Quoted = 6
kind_number w TokenKind.Newline = 7
kind_number w TokenKind.Unlisted = 8
kind_number w TokenKind.Left = 9
kind_number w TokenKind.End = 11

-- a token by the number of its kind, the place of its first byte, and the place past its last
pub record Told : Type 0 where
  pub kind : ℕ
  pub start : ℕ
  pub stop : ℕ

-- a token of a text that stands at o in its line
abbrev pub told : ℕ → ℕ → Token → Told
told w o t = record { kind = kind_number w t.kind; start = o + t.start; stop = o + t.stop }

unfoldable pub told_all : ℕ → ℕ → List Token → List Told
told_all w o [] = []
told_all w o (t ∷ ts) = told w o t ∷ told_all w o ts

-- in bytes: the kind, and each place in two bytes, the low byte first
abbrev pub token_size : ℕ
token_size = 5

abbrev pub token_bytes : Told → List ℕ
token_bytes t = t.kind ∷ (two t.start ++ two t.stop)

unfoldable pub told_bytes : List Told → List ℕ
told_bytes [] = []
told_bytes (t ∷ ts) = token_bytes t ++ told_bytes ts

-- the tokens of a line -------------------------------------------------------------------------------------------------------------------------

-- of tokens in order, those that start before i
unfoldable pub before : ℕ → List Token → List Token
before i [] = []
before i (t ∷ ts) = elim (ltb t.start i) [ true ↦ t ∷ before i ts | false ↦ [] ]

module _ (table : List Row) where
  -- the tokens of the text that stands from f up to e: of its lead and then of the argument as a text, if its word names a prefix; at most
  -- n texts
  unfoldable pub through : List ℕ → ℕ → ℕ → ℕ → List Told
  through line e zero f = []
  through line e (suc n) f =
      let s = part_of line f e in
      elim (is_prefixed table s) [
        | true ↦ told_all prefix_number f (before (lead_of s).argument (tokens_of s)) ++ through line e n (f + (lead_of s).argument)
        | false ↦ told_all word_number f (tokens_of s)
      ]

  -- where the texts of a line end: where its argument does, before a 0x0A, if its word names a prefix
  unfoldable pub texts_end : List ℕ → ℕ
  texts_end line = cond (is_prefixed table line) (run_at is_text line (lead_of line).argument) (length line)

  -- the tokens of the texts, of which there are no more than bytes and one, and the line's own behind them
  unfoldable pub line_tokens : List ℕ → List Told
  line_tokens line =
      through line (texts_end line) (suc (length line)) 0 ++ told_all word_number 0 (tokens_at line (texts_end line))

-- the call -------------------------------------------------------------------------------------------------------------------------------------

-- the tokens of a line on bytes b that are a session
unfoldable pub tokens_on : List ℕ → List ℕ → List Told
tokens_on b l = line_tokens (table_of (session_of b)) l

-- 99, 1, 12: a store shorter than so many bytes for each byte of the line
unfoldable pub tokens_no : List ℕ → List ℕ → ℕ → ℕ
tokens_no b l size =
    cond (sound b) (cond (leb (length l) line_limit) (cond (leb (token_size * length l) size) 0 (refusal_no Refusal.StoreTooShort)) (refusal_no Refusal.LineTooLong))
    (refusal_no Refusal.NotASession)

unfoldable pub tokens_count : List ℕ → List ℕ → ℕ → ℕ
tokens_count b l size = cond (eqb (tokens_no b l size) 0) (length (tokens_on b l)) 0

unfoldable pub tokens_store : List ℕ → List ℕ → List ℕ → List ℕ
tokens_store b l store = cond (eqb (tokens_no b l (length store)) 0) (at_front (told_bytes (tokens_on b l)) store) store
