-- Worked examples of a line's tokens: each holds by computation over the definitions.
-- Assumes nothing.
use Rattle.std.specs.Prelude.{◌≡◌, refl, ℕ, List, [], ◌∷◌}
use Prim.Native.String.{String}
use Rattle.scan.specs.Ascii.{ascii}
use Rattle.scan.specs.Bytes.{is_space, is_colon, is_digit, is_word, is_mark, is_text, is_plain, is_quoted}
use Rattle.scan.specs.Scan.{run_from, run_at, value_from, digits_from, digits_at}
use Rattle.ranges.specs.Range.{is_sign, escaped_atom, mark_atom, sign_atom, number_or, atom_at, offsets_from, offsets_at, with_offsets, after_atom, ending_at, double, after_first, range_at}
use Rattle.lists.specs.Text.{quoted_escape, plain_escape, escape_of, own, stop_at, text_end_from, text_end_at}
use Rattle.lists.specs.Lists.{item_of, item_at}
use Rattle.reading.specs.Line.{skip_byte, word_at}
use Rattle.scanner.specs.Tokens.{token, lead_left, lead_word, lead_range, lead_of, pieces, up_to, piece_at, parted, newline_token, item_token, argument_token, token_at, tokens_from, tokens_at, tokens_of, first_past, covering}
use Rattle.scanner.specs.declared.token.TokenKind.TheVariants.{Space, Colon, Range, Word, Bang, Text, Quoted, Newline, Unlisted, Left, End}
use Rattle.scanner.specs.declared.token.Token.{Token}

tokens : String → List Token
unfolding is_space is_colon is_digit is_word is_mark is_text is_plain is_quoted run_from run_at value_from digits_from digits_at is_sign escaped_atom mark_atom sign_atom number_or atom_at offsets_from offsets_at with_offsets after_atom ending_at double after_first range_at quoted_escape plain_escape escape_of own stop_at text_end_from text_end_at item_of item_at skip_byte word_at lead_left lead_word lead_range lead_of pieces up_to piece_at parted newline_token item_token argument_token token_at tokens_from tokens_at tokens_of
tokens t = tokens_of (ascii t)

abbrev Has : String → List Token → Type 0
Has t ts = tokens t ≡ ts

-- lines whose reading is accepted: the argument of a prefix is told apart as a list is, and the rest of one that is no list is one token
accepted : Has "" []
    × Has ":vert 3sp a\\ b" (token Colon 0 1 ∷ token Word 1 5 ∷ token Space 5 6 ∷ token Text 6 9 ∷ token Space 9 10 ∷ token Text 10 14 ∷ [])
    × Has " \t:: 3,+5q! x" (token Space 0 2 ∷ token Colon 2 4 ∷ token Space 4 5 ∷ token Range 5 9 ∷ token Word 9 10 ∷ token Bang 10 11 ∷ token Space 11 12 ∷ token Text 12 13 ∷ [])
    × Has "w \"a b\" c|d e" (token Word 0 1 ∷ token Space 1 2 ∷ token Quoted 2 7 ∷ token Space 7 8 ∷ token Unlisted 8 13 ∷ [])
    × Has "w \"\"\n" (token Word 0 1 ∷ token Space 1 2 ∷ token Unlisted 2 4 ∷ token Newline 4 5 ∷ [])
    × Has "!!x " (token Word 0 1 ∷ token Bang 1 2 ∷ token Text 2 3 ∷ token Space 3 4 ∷ [])
    × Has "3" (token Range 0 1 ∷ [])
    × Has "\nq" (token Newline 0 1 ∷ token Text 1 2 ∷ [])
    × Has "\n!\n" (token Newline 0 1 ∷ token Bang 1 2 ∷ token Newline 2 3 ∷ [])
unfolding tokens
accepted = (refl, refl, refl, refl, refl, refl, refl, refl, refl)

-- lines whose reading fails: from where it fails, the line is left over
failed : Has "3 q" (token Range 0 1 ∷ token Left 1 3 ∷ [])
    × Has ": :q" (token Colon 0 1 ∷ token Space 1 2 ∷ token Left 2 4 ∷ [])
    × Has ":18446744073709551616q" (token Colon 0 1 ∷ token Left 1 22 ∷ [])
    × Has "q a\nq" (token Word 0 1 ∷ token Space 1 2 ∷ token Text 2 3 ∷ token Left 3 5 ∷ [])
    × Has "q a|b\nq" (token Word 0 1 ∷ token Space 1 2 ∷ token Unlisted 2 5 ∷ token Left 5 7 ∷ [])
    × Has "\n\n\n" (token Newline 0 1 ∷ token Left 1 3 ∷ [])
unfolding tokens
failed = (refl, refl, refl, refl, refl, refl)

-- the token that covers a place: the one that starts before it; at the line's end and behind it, the end
covered : String → ℕ → Token
unfolding tokens first_past covering
covered t i = covering (ascii t) i

at_places : (covered "w \"a b\"" 3 ≡ token Quoted 2 7) × (covered "w a" 1 ≡ token Space 1 2) × (covered "w a" 3 ≡ token End 3 3) × (covered "" 9 ≡ token End 0 0)
unfolding covered
at_places = (refl, refl, refl, refl)
