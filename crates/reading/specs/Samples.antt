-- Worked examples of document 01's section Reading, and of the readings called alone: each holds by computation over the definitions.
-- Assumes nothing.
use Rattle.std.specs.Prelude.{◌≡◌, refl, Bool, true, false, List, [], ◌∷◌, ℕ, replicate, Ok, Err}
use Prim.Native.String.{String}
use Rattle.limits.specs.declared.refusal.Refusal.{Refusal}
use Rattle.scan.specs.Ascii.{ascii}
use Rattle.scan.specs.Bytes.{is_space, is_colon, is_digit, is_word, is_mark, is_text, is_plain, is_quoted}
use Rattle.scan.specs.Scan.{run_from, run_at, value_from, digits_from, digits_at, part_of}
use Rattle.utf8.specs.Utf8.{is_utf8, utf8_at, utf8_from, utf8_step, followers, lowest, highest}
use Rattle.ranges.specs.Range.{is_sign, escaped_atom, mark_atom, sign_atom, number_or, atom_at, offsets_from, offsets_at, with_offsets, after_atom, ending_at, double, after_first, range_at, whole_of, whole_range}
use Rattle.lists.specs.Text.{quoted_escape, plain_escape, escape_of, own, stop_at, text_end_from, text_end_at, bytes_from, bytes_at}
use Rattle.lists.specs.Lists.{item_of, item_at, text_at, also, items_from, items_at, items_of, Filename, lone, filename_of, OptionItem, key_of, after_key, plus_plus, flag_of, option_of, is_empty, keyless, any_keyless}
use Rattle.reading.specs.Line.{skip_byte, word_at, rest_at, after_word, after_range, start_of, reading_of}
use Rattle.reading.specs.Told.{Direction, direction_told, Atom, atom_told, ToldEnd, end_told, Separator, separator_told, ToldRange, spec_told}
use Rattle.reading.specs.Alone.{Answer, Ranged, check_for, checked_for, item_at_place, list_answer, filenames_alone, strings_alone, options_answer, options_alone, range_answer, range_alone}

-- readings: the word, the bang and the argument as bytes ---------------------------------------------------------------------------

data Said : Type 0 where
  says : List ℕ → Bool → List ℕ → Said
  refuses : Refusal → Said

abbrev fails : Said
fails = refuses Refusal.ParseFailed

abbrev too_large : Said
too_large = refuses Refusal.NumberTooLarge

said : String → Said
unfolding is_space is_colon is_digit is_word is_mark is_text run_from run_at value_from digits_from digits_at is_sign escaped_atom mark_atom sign_atom number_or atom_at offsets_from offsets_at with_offsets after_atom ending_at double after_first range_at skip_byte word_at rest_at after_word after_range start_of reading_of
said t =
    elim (reading_of (ascii t)) [
      | Ok c ↦ says (part_of (ascii t) c.word c.end) c.bang (part_of (ascii t) c.argument c.stop)
      | Err why ↦ refuses why
    ]

-- a text that says its word, with no bang, and its argument
abbrev word : String → String → Said
word w a = says (ascii w) false (ascii a)

abbrev Reads : String → Said → Type 0
Reads t r = said t ≡ r

readings : Reads "" (word "" "")
    × Reads "3" (word "" "")
    × Reads "3 q" fails
    × Reads ":vert 3sp a\\ b" (word "vert" "3sp a\\ b")
    × Reads "3sp a\\ b" (word "sp" "a\\ b")
    × Reads " \t:: q! x y " (says (ascii "q") true (ascii "x y "))
    × Reads "vert!!" (says (ascii "vert") true (ascii "!"))
    × Reads "tab3sp" (word "tab" "3sp")
    × Reads "w>>f" (word "w>>f" "")
    × Reads "s/a/b/" (word "s" "/a/b/")
    × Reads "q|q" (word "q" "|q")
    × Reads "!q" (word "!" "q")
    × Reads "!!" (says (ascii "!") true [])
    × Reads ": :q" fails
    × Reads "3:q" fails
unfolding said
readings = (refl, refl, refl, refl, refl, refl, refl, refl, refl, refl, refl, refl, refl, refl, refl)

-- 0x0A: one may end a text, and one may be the word
newlines : Reads "q\n" (word "q" "")
    × Reads "w a\n" (word "w" "a")
    × Reads "\nq" (word "" "q")
    × Reads "\n!" (says [] true [])
    × Reads "\n\n" (word "" "")
    × Reads "\n\n\n" fails
    × Reads "q\n\n" fails
    × Reads "q\nq" fails
    × Reads "3\nq" (word "" "q")
unfolding said
newlines = (refl, refl, refl, refl, refl, refl, refl, refl, refl)

-- 4 or 3 as met
numbers : Reads "18446744073709551615q" (word "q" "")
    × Reads "18446744073709551616q" too_large
    × Reads "18446744073709551616 q" too_large
    × Reads "+5,18446744073709551616" too_large
    × Reads "q\n18446744073709551616" fails
    × Reads "3:18446744073709551616q" fails
    × Reads "'18446744073709551616q" fails
    × Reads "000000000000000000000000000007q" (word "q" "")
unfolding said
numbers = (refl, refl, refl, refl, refl, refl, refl, refl)

-- ranges ----------------------------------------------------------------------------------------------------------------------------

ranged : String → Ranged
unfolding is_digit is_mark run_from run_at value_from digits_from digits_at is_sign escaped_atom mark_atom sign_atom number_or atom_at offsets_from offsets_at with_offsets after_atom ending_at double after_first range_at whole_of whole_range direction_told atom_told end_told separator_told spec_told range_answer check_for checked_for range_alone is_utf8 utf8_at utf8_from utf8_step followers lowest highest
ranged t = range_alone (ascii t)

abbrev end : Atom → ℕ → ℕ → ToldEnd
end a i j = record { atom = a; from = i; to = j }

ranges : (ranged "2,.+4" ≡ Ranged.range (ToldRange.double (end (Atom.digits 2) 1 1) Separator.comma (end Atom.dot 3 5)))
    × (ranged "'a+5-3" ≡ Ranged.range (ToldRange.single (end (Atom.mark 0x61) 2 6)))
    × (ranged ";" ≡ Ranged.range (ToldRange.double (end Atom.unspecified 0 0) Separator.semicolon (end Atom.unspecified 1 1)))
    × (ranged "\\/+;\\?" ≡ Ranged.range (ToldRange.double (end (Atom.search Direction.next) 2 3) Separator.semicolon (end (Atom.search Direction.previous) 6 6)))
    × (ranged "\\&" ≡ Ranged.range (ToldRange.single (end Atom.ampersand 2 2)))
    × (ranged "%" ≡ Ranged.range (ToldRange.single (end Atom.percent 1 1)))
    × (ranged "$-" ≡ Ranged.range (ToldRange.single (end Atom.dollar 1 2)))
    × (ranged "18446744073709551615" ≡ Ranged.range (ToldRange.single (end (Atom.digits 18446744073709551615) 20 20)))
    × (ranged "+18446744073709551616" ≡ Ranged.refused 4)
    × (ranged "" ≡ Ranged.refused 3)
    × (ranged " 3" ≡ Ranged.refused 3)
    × (ranged "3 " ≡ Ranged.refused 3)
    × (ranged "5\n" ≡ Ranged.refused 3)
unfolding ranged
ranges = (refl, refl, refl, refl, refl, refl, refl, refl, refl, refl, refl, refl, refl)

-- lists, with a store that is long enough ----------------------------------------------------------------------------------------------

string : String → ℕ → Answer (List ℕ)
unfolding is_space is_plain is_quoted run_from run_at quoted_escape plain_escape escape_of own stop_at text_end_from text_end_at bytes_from bytes_at item_of item_at text_at also items_from items_at items_of check_for checked_for item_at_place list_answer strings_alone is_utf8 utf8_at utf8_from utf8_step followers lowest highest
string t place = strings_alone (ascii t) place 1064

strings : (string "a\\ b \"c\\td\" " 0 ≡ Answer.item 2 (ascii "a b"))
    × (string "a\\ b \"c\\td\" " 1 ≡ Answer.item 2 (ascii "c\td"))
    × (string "a\\ b \"c\\td\" " 2 ≡ Answer.beyond 2)
    × (string "#\\#\\%\\|\\\\\\\"" 0 ≡ Answer.item 1 (ascii "##%|\\\""))
    × (string "\"\\r\\n\\\\\\\"\"" 0 ≡ Answer.item 1 (ascii "\r\n\\\""))
    × (string "" 0 ≡ Answer.beyond 0)
    × (string " \t" 5 ≡ Answer.beyond 0)
    × (string " a" 0 ≡ Answer.refused 3)
    × (string "\"\"" 0 ≡ Answer.refused 3)
    × (string "\"a\"b" 0 ≡ Answer.refused 3)
    × (string "a\"b\"" 0 ≡ Answer.refused 3)
    × (string "\"a" 0 ≡ Answer.refused 3)
    × (string "a\\" 0 ≡ Answer.refused 3)
    × (string "a\\n" 0 ≡ Answer.refused 3)
    × (string "a|b" 0 ≡ Answer.refused 3)
    × (string "a\n" 0 ≡ Answer.refused 3)
unfolding string
strings = (refl, refl, refl, refl, refl, refl, refl, refl, refl, refl, refl, refl, refl, refl, refl, refl)

filename : String → ℕ → Answer Filename
unfolding is_space is_plain is_quoted run_from run_at quoted_escape plain_escape escape_of own stop_at text_end_from text_end_at bytes_from bytes_at item_of item_at text_at also items_from items_at items_of lone filename_of check_for checked_for item_at_place list_answer filenames_alone is_utf8 utf8_at utf8_from utf8_step followers lowest highest
filename t place = filenames_alone (ascii t) place 1064

filenames : (filename "# %\t\\# \"#\" #a" 0 ≡ Answer.item 5 Filename.alternate)
    × (filename "# %\t\\# \"#\" #a" 1 ≡ Answer.item 5 Filename.current)
    × (filename "# %\t\\# \"#\" #a" 2 ≡ Answer.item 5 (Filename.name (ascii "#")))
    × (filename "# %\t\\# \"#\" #a" 3 ≡ Answer.item 5 (Filename.name (ascii "#")))
    × (filename "# %\t\\# \"#\" #a" 4 ≡ Answer.item 5 (Filename.name (ascii "#a")))
    × (filename "# %\t\\# \"#\" #a" 5 ≡ Answer.beyond 5)
unfolding filename
filenames = (refl, refl, refl, refl, refl, refl)

option : String → ℕ → Answer OptionItem
unfolding is_space is_plain is_quoted run_from run_at quoted_escape plain_escape escape_of own stop_at text_end_from text_end_at bytes_from bytes_at item_of item_at text_at also items_from items_at items_of key_of after_key plus_plus flag_of option_of is_empty keyless any_keyless check_for checked_for item_at_place options_answer options_alone is_utf8 utf8_at utf8_from utf8_step followers lowest highest
option t place = options_alone (ascii t) place 1064

options : (option "x ++k ++k= ++k=v=w +++ \"++k=v w\"" 0 ≡ Answer.item 6 (OptionItem.positional (ascii "x")))
    × (option "x ++k ++k= ++k=v=w +++ \"++k=v w\"" 1 ≡ Answer.item 6 (OptionItem.flag (ascii "k")))
    × (option "x ++k ++k= ++k=v=w +++ \"++k=v w\"" 2 ≡ Answer.item 6 (OptionItem.valued (ascii "k") []))
    × (option "x ++k ++k= ++k=v=w +++ \"++k=v w\"" 3 ≡ Answer.item 6 (OptionItem.valued (ascii "k") (ascii "v=w")))
    × (option "x ++k ++k= ++k=v=w +++ \"++k=v w\"" 4 ≡ Answer.item 6 (OptionItem.flag (ascii "+")))
    × (option "x ++k ++k= ++k=v=w +++ \"++k=v w\"" 5 ≡ Answer.item 6 (OptionItem.valued (ascii "k") (ascii "v w")))
    × (option "a ++=" 0 ≡ Answer.refused 5)
    × (option "++ a" 7 ≡ Answer.refused 5)
    × (option "++= \"" 0 ≡ Answer.refused 3)
unfolding option
options = (refl, refl, refl, refl, refl, refl, refl, refl, refl)

-- the checks 1, 12 and 2, in this order: so many bytes b, and a store of so many ---------------------------------------------------------

many : ℕ → ℕ → ℕ → Answer (List ℕ)
unfolding is_space is_plain is_quoted run_from run_at quoted_escape plain_escape escape_of own stop_at text_end_from text_end_at bytes_from bytes_at item_of item_at text_at also items_from items_at items_of check_for checked_for item_at_place list_answer strings_alone is_utf8 utf8_at utf8_from utf8_step followers lowest highest
many n b size = strings_alone (replicate n b) 1 size

checks : (many 1024 0x61 1064 ≡ Answer.beyond 1)
    × (many 1024 0x61 1063 ≡ Answer.refused 12)
    × (many 1025 0x61 0 ≡ Answer.refused 1)
    × (many 1 0xFF 40 ≡ Answer.refused 12)
    × (many 1 0xFF 41 ≡ Answer.refused 2)
    × (many 0 0 40 ≡ Answer.beyond 0)
    × (many 0 0 39 ≡ Answer.refused 12)
unfolding many
checks = (refl, refl, refl, refl, refl, refl, refl)

-- UTF-8: overlong forms, surrogates, above U+10FFFF, cut
good : List ℕ → Bool
unfolding is_utf8 utf8_at utf8_from utf8_step followers lowest highest
good s = is_utf8 s

utf8s : (good (0xE2 ∷ 0x82 ∷ 0xAC ∷ []) ≡ true)
    × (good (0xF4 ∷ 0x8F ∷ 0xBF ∷ 0xBF ∷ []) ≡ true)
    × (good (0xC0 ∷ 0xAF ∷ []) ≡ false)
    × (good (0xE0 ∷ 0x9F ∷ 0xBF ∷ []) ≡ false)
    × (good (0xF0 ∷ 0x8F ∷ 0xBF ∷ 0xBF ∷ []) ≡ false)
    × (good (0xED ∷ 0xA0 ∷ 0x80 ∷ []) ≡ false)
    × (good (0xF4 ∷ 0x90 ∷ 0x80 ∷ 0x80 ∷ []) ≡ false)
    × (good (0xE2 ∷ 0x82 ∷ []) ≡ false)
    × (good (0x80 ∷ []) ≡ false)
unfolding good
utf8s = (refl, refl, refl, refl, refl, refl, refl, refl, refl)
