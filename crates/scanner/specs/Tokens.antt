-- The tokens of a line, for tools that highlight it: one after the other they cover the line, whether its reading is accepted or not.
-- The lead of a line is what document 01's section Reading names before the argument: spaces, colons, spaces, a range, a word, the bang,
-- spaces. The argument is told apart as an argument list is; where it is no list, its rest is one token.
-- Look for `lead_of`, `argument_token`, `token_at`, `tokens_of`; of a scanner `step_at`, `handed`; of a place `covering`. Assumes nothing.
use Rattle.std.specs.Prelude.{ℕ, zero, suc, ◌+◌, ◌-◌, Bool, true, false, cond, ◌||◌, List, [], ◌∷◌, eqb, leb, ltb, length, Ok, Err, Option, Some, None}
use Rattle.scan.specs.Bytes.{is_space, is_colon, is_text}
use Rattle.scan.specs.Scan.{run_at, byte_at}
use Rattle.ranges.specs.Range.{range_at, RangeRead}
use Rattle.lists.specs.Lists.{item_at}
use Rattle.reading.specs.Line.{skip_byte, word_at}
use Rattle.scanner.specs.declared.token.TokenKind.{TokenKind}
use Rattle.scanner.specs.declared.token.Token.{Token}
use Rattle.scanner.specs.declared.token.Lead.{Lead}
use Rattle.scanner.specs.declared.token.Position.{Position}
use Rattle.scanner.specs.declared.token.Scanned.{Scanned}

-- a token: its kind, and its bytes from i up to j
abbrev pub token : TokenKind → ℕ → ℕ → Token
token k i j = record { kind = k; start = i; stop = j }

-- that nothing is left: at the end of s
abbrev pub end_token : List ℕ → Token
end_token s = token TokenKind.End (length s) (length s)

-- the lead -----------------------------------------------------------------------------------------------------------------------

-- the reading fails at d, past spaces, colons, spaces and perhaps a range: from there on the line is left over
unfoldable pub lead_left : List ℕ → ℕ → ℕ → ℕ → ℕ → Lead
lead_left s a b c d =
    record { spaces = a; colons = b; start = c; range = d; word = d; newline = d; bang = d; blank = d; argument = length s }

-- past the range, at d, stands a word that ends at e, and the reading goes on at k: at e, or past the 0x0A that an empty word consumes
unfoldable pub lead_word : List ℕ → ℕ → ℕ → ℕ → ℕ → Option (ℕ × ℕ) → Lead
lead_word s a b c d (Some (e, k)) =
    let f = skip_byte s k 0x21 in
    let g = run_at is_space s f in
    record { spaces = a; colons = b; start = c; range = d; word = e; newline = k; bang = f; blank = g; argument = g }
lead_word s a b c d None = lead_left s a b c d

unfoldable pub lead_range : List ℕ → ℕ → ℕ → ℕ → RangeRead → Lead
lead_range s a b c (Ok None) = lead_word s a b c c (word_at s c)
lead_range s a b c (Ok (Some (g, d))) = lead_word s a b c d (word_at s d)
lead_range s a b c (Err why) = lead_left s a b c c

-- where each piece of the lead ends, which is where the next one starts
unfoldable pub lead_of : List ℕ → Lead
lead_of s =
    let a = run_at is_space s 0 in
    let b = run_at is_colon s a in
    let c = run_at is_space s b in
    lead_range s a b c (range_at s c)

-- a piece: its kind and where it ends
pub record Piece : Type 0 where
  pub kind : TokenKind
  pub stop : ℕ

unfoldable pub pieces : Lead → List Piece
pieces l =
    record { kind = TokenKind.Space; stop = l.spaces }
    ∷ record { kind = TokenKind.Colon; stop = l.colons }
    ∷ record { kind = TokenKind.Space; stop = l.start }
    ∷ record { kind = TokenKind.Range; stop = l.range }
    ∷ record { kind = TokenKind.Word; stop = l.word }
    ∷ record { kind = TokenKind.Newline; stop = l.newline }
    ∷ record { kind = TokenKind.Bang; stop = l.bang }
    ∷ record { kind = TokenKind.Space; stop = l.blank }
    ∷ record { kind = TokenKind.Left; stop = l.argument }
    ∷ []

-- from i on: the piece up to j, if i stands before j, or else what comes then
unfoldable pub up_to : TokenKind → ℕ → ℕ → Token → Token
up_to k i j t = cond (ltb i j) (token k i j) t

-- the piece that i stands in, from i on; past all of them, the end
unfoldable pub piece_at : List Piece → ℕ → Token
piece_at [] i = token TokenKind.End i i
piece_at (p ∷ ps) i = up_to p.kind i p.stop (piece_at ps i)

-- the argument -------------------------------------------------------------------------------------------------------------------

-- an item may end at j: a space, 0x0A or the end stands there
unfoldable pub parted : List ℕ → ℕ → Bool
parted s j = leb (length s) j || (is_space (byte_at s j) || eqb (byte_at s j) 0x0A)

-- 0x0A at i: it ends the line, or the reading fails there
unfoldable pub newline_token : List ℕ → ℕ → Token
newline_token s i = cond (eqb (i + 1) (length s)) (token TokenKind.Newline i (i + 1)) (token TokenKind.Left i (length s))

-- an item at i, quoted or plain; where none can be read, the argument is no list, and its rest is one token
unfoldable pub item_token : List ℕ → ℕ → Option ℕ → Token
item_token s i (Some j) =
    cond (parted s j) (cond (eqb (byte_at s i) 0x22) (token TokenKind.Quoted i j) (token TokenKind.Text i j))
    (token TokenKind.Unlisted i (run_at is_text s i))
item_token s i None = token TokenKind.Unlisted i (run_at is_text s i)

-- the token at i of an argument and of what stands behind it
unfoldable pub argument_token : List ℕ → ℕ → Token
argument_token s i =
    cond (leb (length s) i) (end_token s)
    (cond (is_space (byte_at s i)) (token TokenKind.Space i (run_at is_space s i))
    (cond (eqb (byte_at s i) 0x0A) (newline_token s i) (item_token s i (item_at s i))))

-- the tokens ---------------------------------------------------------------------------------------------------------------------

-- the token at i of a line with the lead l: of the lead, or of the argument
abbrev pub token_in : List ℕ → Lead → ℕ → Token
token_in s l i = cond (ltb i l.argument) (piece_at (pieces l) i) (argument_token s i)

unfoldable pub token_at : List ℕ → ℕ → Token
token_at s i = token_in s (lead_of s) i

-- at most n tokens from i on, each where the one before it stopped
unfoldable pub tokens_from : ℕ → List ℕ → ℕ → List Token
tokens_from zero s i = []
tokens_from (suc n) s i = elim (leb (length s) i) [ true ↦ [] | false ↦ token_at s i ∷ tokens_from n s (token_at s i).stop ]

-- the tokens from i on: no more of them than bytes
unfoldable pub tokens_at : List ℕ → ℕ → List Token
tokens_at s i = tokens_from (length s - i) s i

unfoldable pub tokens_of : List ℕ → List Token
tokens_of s = tokens_at s 0

-- the scanner --------------------------------------------------------------------------------------------------------------------

-- where a scanner stands that goes on at i, of a line whose argument starts at g
unfoldable pub position_at : ℕ → ℕ → Position
position_at g i = cond (ltb i g) (Position.Lead i) (Position.Argument i)

-- what a scanner hands out, and where it then stands: from a place of the lead the token there; from one of the argument the token that
-- would stand there in an argument, and the lead is not looked at
unfoldable pub step_at : List ℕ → Position → Scanned
step_at s (Position.Lead i) = record { token = token_at s i; position = position_at (lead_of s).argument (token_at s i).stop }
step_at s (Position.Argument i) = record { token = argument_token s i; position = Position.Argument (argument_token s i).stop }

-- the tokens that n calls of `next` hand out, one after the other, to a scanner that stands at p
unfoldable pub handed : ℕ → List ℕ → Position → List Token
handed zero s p = []
handed (suc n) s p = (step_at s p).token ∷ handed n s (step_at s p).position

-- n times that nothing is left
unfoldable pub ends : ℕ → List ℕ → List Token
ends zero s = []
ends (suc n) s = end_token s ∷ ends n s

-- a place ------------------------------------------------------------------------------------------------------------------------

-- the first of the tokens that stops behind i, or e where none does
unfoldable pub first_past : Token → ℕ → List Token → Token
first_past e i [] = e
first_past e i (t ∷ ts) = elim (ltb i t.stop) [ true ↦ t | false ↦ first_past e i ts ]

-- the token of the line that covers the place i; at the line's end and behind it, that nothing is left
unfoldable pub covering : List ℕ → ℕ → Token
covering s i = first_past (end_token s) i (tokens_of s)
