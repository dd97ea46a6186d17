-- What is said of a line's tokens: that they cover the line, the bytes that they name, those of one kind, and what is left over.
-- Assumes nothing.
use Rattle.std.specs.Prelude.{◌≡◌, ℕ, ◌+◌, ◌<◌, ◌≤◌, Bool, true, false, cond, ◌||◌, eqb, ltb, length}
use mathlib.Core.List.{List, [], ◌∷◌, ◌++◌, Memᴰ}
use Rattle.scan.specs.Scan.{byte_at, part_of}
use Rattle.lists.specs.declared.list.Item.{Item}
use Rattle.utf8.specs.Utf8.{is_utf8}
use Rattle.scanner.specs.Tokens.{token}
use Rattle.scanner.specs.declared.token.TokenKind.{TokenKind}
use Rattle.scanner.specs.declared.token.Token.{Token}

-- tokens that go from i up to e: each starts where the one before it stopped, and has at least one byte
abbrev pub Covers : ℕ → ℕ → List Token → Type 0
Covers i e [] = i ≡ e
Covers i e (t ∷ ts) = (t.start ≡ i) × (i < t.stop) × Covers t.stop e ts

-- t is one of the tokens, and the place i stands in it
pub record CoveredBy (ts : List Token) (i : ℕ) (t : Token) : Type 0 where
  pub listed : Memᴰ t ts
  pub from : t.start ≤ i
  pub to : i < t.stop

-- the bytes of s that tokens name, one token after the other
unfoldable pub bytes_of : List ℕ → List Token → List ℕ
bytes_of s [] = []
bytes_of s (t ∷ ts) = part_of s t.start t.stop ++ bytes_of s ts

-- a number for each kind, to tell them apart; the first four stand in a lead alone
unfoldable pub kind_no : TokenKind → ℕ
kind_no TokenKind.Colon = 0
kind_no TokenKind.Range = 1
kind_no TokenKind.Word = 2
kind_no TokenKind.Bang = 3
kind_no TokenKind.Space = 4
kind_no TokenKind.Text = 5
kind_no TokenKind.Quoted = 6
kind_no TokenKind.Newline = 7
kind_no TokenKind.Unlisted = 8
kind_no TokenKind.Left = 9
kind_no TokenKind.End = 10

-- the tokens of one kind, in their order
unfoldable pub of_kind : TokenKind → List Token → List Token
of_kind k [] = []
of_kind k (t ∷ ts) = elim (eqb (kind_no t.kind) (kind_no k)) [ true ↦ t ∷ of_kind k ts | false ↦ of_kind k ts ]

-- the tokens whose kind passes a test, in their order
unfoldable pub only : (TokenKind → Bool) → List Token → List Token
only f [] = []
only f (t ∷ ts) = elim (f t.kind) [ true ↦ t ∷ only f ts | false ↦ only f ts ]

-- the texts and the quoted texts
unfoldable pub is_item : TokenKind → Bool
is_item k = eqb (kind_no k) (kind_no TokenKind.Text) || eqb (kind_no k) (kind_no TokenKind.Quoted)

abbrev pub texts : List Token → List Token
texts ts = only is_item ts

-- the token that an item of the argument is, where that starts at a: quoted if it starts with a quote
unfoldable pub token_of : List ℕ → ℕ → Item → Token
token_of s a x = token (cond (eqb (byte_at s (a + x.start)) 0x22) TokenKind.Quoted TokenKind.Text) (a + x.start) (a + x.end)

unfoldable pub tokens_for : List ℕ → ℕ → List Item → List Token
tokens_for s a [] = []
tokens_for s a (x ∷ xs) = token_of s a x ∷ tokens_for s a xs

-- one token, or none where it would have no byte
unfoldable pub some : TokenKind → ℕ → ℕ → List Token
some k i j = cond (ltb i j) (token k i j ∷ []) []

-- the last token is left over, and goes up to the end of s
pub record LeftOver (s : List ℕ) (ts : List Token) : Type 0 where
  pub before : List Token
  pub from : ℕ
  pub inside : from < length s
  pub is : ts ≡ before ++ token TokenKind.Left from (length s) ∷ []

-- the bytes of each token are UTF-8: no token cuts a character
abbrev pub Utf8s : List ℕ → List Token → Type 0
Utf8s s [] = Unit {0}
Utf8s s (t ∷ ts) = (is_utf8 (part_of s t.start t.stop) ≡ true) × Utf8s s ts

-- each token stands from a up to e
abbrev pub Within : ℕ → ℕ → List Token → Type 0
Within a e [] = Unit {0}
Within a e (t ∷ ts) = (a ≤ t.start) × (t.stop ≤ e) × Within a e ts
