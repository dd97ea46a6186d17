-- Worked examples of the tokens of a line through its prefixes, with the words as shipped: each holds by computation over the definitions.
-- Assumes nothing.
use Rattle.std.specs.Prelude.{◌≡◌, refl, List, [], ◌∷◌, ℕ}
use Prim.Native.String.{String}
use Rattle.scan.specs.Ascii.{ascii}
use Rattle.scan.specs.Bytes.{is_space, is_colon, is_digit, is_word, is_mark, is_text, is_plain, is_quoted}
use Rattle.scan.specs.Scan.{run_from, run_at, value_from, digits_from, digits_at}
use Rattle.ranges.specs.Range.{is_sign, escaped_atom, mark_atom, sign_atom, number_or, atom_at, offsets_from, offsets_at, with_offsets, after_atom, ending_at, double, after_first, range_at}
use Rattle.lists.specs.Text.{quoted_escape, plain_escape, escape_of, own, stop_at, text_end_from, text_end_at}
use Rattle.lists.specs.Lists.{item_of, item_at}
use Rattle.reading.specs.Line.{skip_byte, word_at}
use Rattle.scanner.specs.Tokens.{lead_left, lead_word, lead_range, lead_of, pieces, up_to, piece_at, parted, newline_token, item_token, argument_token, token_at, tokens_from, tokens_at, tokens_of}
use Rattle.words.specs.Words.{aliases, names, shipped, same, lookup_in}
use Rattle.commands.specs.Handle.{role_of}
use Rattle.commands.specs.Run.{role_named}
use Rattle.tokens.specs.Through.{is_prefixed, Told, told_all, before, through, texts_end, line_tokens}

tokens : String → List Told
unfolding is_space is_colon is_digit is_word is_mark is_text is_plain is_quoted run_from run_at value_from digits_from digits_at is_sign escaped_atom mark_atom sign_atom number_or atom_at offsets_from offsets_at with_offsets after_atom ending_at double after_first range_at quoted_escape plain_escape escape_of own stop_at text_end_from text_end_at item_of item_at skip_byte word_at lead_left lead_word lead_range lead_of pieces up_to piece_at parted newline_token item_token argument_token token_at tokens_from tokens_at tokens_of aliases names shipped same lookup_in role_of role_named is_prefixed told_all before through texts_end line_tokens
tokens t = line_tokens shipped (ascii t)

-- the numbers of the kinds
space : ℕ → ℕ → Told
space i j = record { kind = 0; start = i; stop = j }

of : ℕ → ℕ → ℕ → Told
of k i j = record { kind = k; start = i; stop = j }

abbrev Has : String → List Told → Type 0
Has t ts = tokens t ≡ ts

-- the argument of a prefix is told apart as a line is: a range, a word (3) and texts, where the scanner of the line alone has texts
through_prefixes : Has "" []
    × Has ":vert 3sp a\\ b" (of 1 0 1 ∷ of 10 1 5 ∷ space 5 6 ∷ of 2 6 7 ∷ of 3 7 9 ∷ space 9 10 ∷ of 5 10 14 ∷ [])
    × Has "%tab! vert q" (of 2 0 1 ∷ of 10 1 4 ∷ of 4 4 5 ∷ space 5 6 ∷ of 10 6 10 ∷ space 10 11 ∷ of 3 11 12 ∷ [])
    × Has "vert" (of 10 0 4 ∷ [])
    × Has "tab3sp" (of 10 0 3 ∷ of 2 3 4 ∷ of 3 4 6 ∷ [])
unfolding tokens space of
through_prefixes = (refl, refl, refl, refl, refl)

-- a 0x0A ends the argument of a prefix: what stands behind it is the line's own, and a text that fails is left over up to there
behind_texts : Has "vert sp\n" (of 10 0 4 ∷ space 4 5 ∷ of 3 5 7 ∷ of 7 7 8 ∷ [])
    × Has "vert sp\nq" (of 10 0 4 ∷ space 4 5 ∷ of 3 5 7 ∷ of 9 7 9 ∷ [])
    × Has "vert \n!" (of 10 0 4 ∷ space 4 5 ∷ of 9 5 7 ∷ [])
    × Has "vert 3 q\n" (of 10 0 4 ∷ space 4 5 ∷ of 2 5 6 ∷ of 9 6 8 ∷ of 7 8 9 ∷ [])
unfolding tokens space of
behind_texts = (refl, refl, refl, refl)
