-- Document 01's sample lines, and one or more for each command, in a session as shipped: they hold by computation over `line`, the
-- definition of demand 2. Each is given as document 01's program prints it, with no bytes where a refused line writes none.
-- Assumes nothing.
use Rattle.std.specs.Prelude.{◌≡◌, refl, Bool, true, cond, ◌&&◌, List, [], ◌∷◌, ℕ, zero, suc, ◌+◌, ◌*◌, ◌-◌, eqb, ltb, replicate}
use Prim.Native.String.{String}
use Rattle.scan.specs.Ascii.{ascii}
use Rattle.scan.specs.Bytes.{is_space, is_colon, is_digit, is_word, is_mark, is_text, is_plain, is_quoted}
use Rattle.scan.specs.Scan.{run_from, run_at, value_from, digits_from, digits_at}
use Rattle.utf8.specs.Utf8.{is_utf8, utf8_at, utf8_from, utf8_step, followers, lowest, highest}
use Rattle.store.specs.Sevens.{encode, named}
use Rattle.ranges.specs.Range.{is_sign, escaped_atom, mark_atom, sign_atom, number_or, atom_at, offsets_from, offsets_at, with_offsets, after_atom, ending_at, double, after_first, range_at, whole_of, whole_range}
use Rattle.lists.specs.Text.{quoted_escape, plain_escape, escape_of, own, stop_at, text_end_from, text_end_at, bytes_from, bytes_at}
use Rattle.lists.specs.Lists.{item_of, item_at, text_at, also, items_from, items_at, items_of, lone}
use Rattle.reading.specs.Line.{skip_byte, word_at, rest_at, after_word, after_range, start_of, reading_of}
use Rattle.reading.specs.Alone.{check_for, checked_for, line_room}
use Rattle.focus.specs.Sum.{add_same, apart, add_is, add_to, sum_from, sum_at, sum_of, moved}
use Rattle.focus.specs.Focus.{toward, placed, end_focus, range_focus, focus_of, at_least_one, sized, end_count, range_count}
use Rattle.words.specs.Words.{aliases, names, shipped, same, lookup_in}
use Rattle.context.specs.Context.{fresh}
use Rattle.handlers.specs.Close.{forced, quitting}
use Rattle.tabs.specs.Tabs.{unargued, argued, either, tab_range, focusing, moving, next_by, tabnext_of, back_end, back, prev_by, tabprev_of, move_argument, move_range, tabmove_of}
use Rattle.resize.specs.Resize.{exact_by, stepped, step_by, end_change, range_change, change_by, change_of, resize_at, resize_by, resize_of}
use Rattle.windows.specs.One.{only_of, only_item}
use Rattle.windows.specs.Open.{target_of, opened_by, opened, opening, viewing, sized_by, size_of, window_target, window_by, split_of, vsplit_of, switch_by, view_of, tab_at, tab_by, tabedit_of}
use Rattle.windows.specs.Write.{writing, write_by, write_of, wall_of}
use Rattle.commands.specs.Handle.{role_of, handle_of}
use Rattle.commands.specs.Run.{by_focus, by_role, by_name, by_reading, decide, change, Out, out_no, out_bytes, Answer, once, done_out, trim, step, run, run_on, line_from}
use Rattle.commands.specs.Line.{turned, line}

-- a line, its refusal's number (0 for none), its readings, and the bytes that it writes
record Sample : Type 0 where
  text : List ℕ
  refusal : ℕ
  readings : ℕ
  bytes : List ℕ

-- what a digit in lower-case hex stands for, and what pairs of them stand for
abbrev hex_digit : ℕ → ℕ
hex_digit c = cond (ltb c 0x61) (c - 0x30) (c - 0x57)

abbrev hex : List ℕ → List ℕ
hex [] = []
hex (a ∷ []) = []
hex (a ∷ b ∷ r) = (16 * hex_digit a + hex_digit b) ∷ hex r

abbrev sample : String → ℕ → ℕ → String → Sample
sample t n k bs = record { text = ascii t; refusal = n; readings = k; bytes = hex (ascii bs) }

abbrev says : Answer → Sample → Bool
says a x = eqb (out_no a.out) x.refusal && (eqb a.readings x.readings && same (out_bytes a.out) x.bytes)

-- what a line answers in a session as shipped, with a store of so many bytes
typed : List ℕ → ℕ → Answer
unfolding is_space is_colon is_digit is_word is_mark is_text is_plain is_quoted run_from run_at value_from digits_from digits_at is_utf8 utf8_at utf8_from utf8_step followers lowest highest encode named is_sign escaped_atom mark_atom sign_atom number_or atom_at offsets_from offsets_at with_offsets after_atom ending_at double after_first range_at whole_of whole_range quoted_escape plain_escape escape_of own stop_at text_end_from text_end_at bytes_from bytes_at item_of item_at text_at also items_from items_at items_of lone skip_byte word_at rest_at after_word after_range start_of reading_of check_for checked_for line_room add_same apart add_is add_to sum_from sum_at sum_of moved toward placed end_focus range_focus focus_of at_least_one sized end_count range_count aliases names shipped same lookup_in forced quitting unargued argued either tab_range focusing moving next_by tabnext_of back_end back prev_by tabprev_of move_argument move_range tabmove_of only_of only_item target_of opened_by opened opening viewing sized_by size_of window_target window_by split_of vsplit_of switch_by view_of tab_at tab_by tabedit_of exact_by stepped step_by end_change range_change change_by change_of resize_at resize_by resize_of writing write_by write_of wall_of role_of handle_of by_focus by_role by_name by_reading decide change out_no out_bytes done_out trim step run run_on line_from line
typed l size = line shipped fresh l size

agrees : Sample → Bool
unfolding typed
agrees x = says (typed x.text 1064) x

all_agree : List Sample → Bool
all_agree [] = true
all_agree (x ∷ xs) = agrees x && all_agree xs

-- those that document 01 marks, "proved together as one statement over a list"
marked : List Sample
marked =
    sample "" 0 1 "00" ∷
    sample "3" 0 1 "00" ∷
    sample "3 q" 3 1 "" ∷
    sample "vert" 0 2 "00" ∷
    sample "+5-3close" 0 1 "0100020101020000" ∷
    sample "0sp" 0 1 "03000000010101" ∷
    sample "2,7sp" 0 1 "03000000010107" ∷
    sample "2,.+4sp" 0 1 "030000000101ffffffffffffffffff01" ∷
    sample "resize +5 " 3 1 "" ∷
    sample "tabn q" 5 1 "" ∷
    sample "tabm q" 3 1 "" ∷
    sample "tab view #" 0 2 "0a010200" ∷ []

marked_hold : all_agree marked ≡ true
unfolding agrees all_agree marked
marked_hold = refl

-- its other sample lines
unmarked : List Sample
unmarked =
    sample ":vert 3sp a\\ b" 0 2 "0303036120620001010103" ∷
    sample "foo" 10 1 "03666f6f" ∷
    sample "w \"\"" 3 1 "" ∷
    sample "w a b" 5 1 "" ∷
    sample "$+1close" 6 1 "" ∷
    sample "\nq" 0 1 "00" ∷
    sample "q\nq" 3 1 "" ∷
    sample "18446744073709551615close" 0 1 "010001ffffffffffffffffff0100" ∷
    sample "18446744073709551616close" 4 1 "" ∷
    sample "+18446744073709551615+1close" 7 1 "" ∷
    sample "+18446744073709551615+1sp" 0 1 "030000000101ffffffffffffffffff01" ∷ []

unmarked_hold : all_agree unmarked ≡ true
unfolding agrees all_agree unmarked
unmarked_hold = refl

-- sums of offsets: -0 is Previous 0, and 7 is met where a sum is worked out
sums : List Sample
sums =
    sample "+close" 0 1 "0100020001010000" ∷
    sample "-0close" 0 1 "0100020101000000" ∷
    sample ".close" 0 1 "0100020001000000" ∷
    sample "+5-3+1close" 0 1 "0100020001010000" ∷
    sample "3-5close" 0 1 "0100010000" ∷
    sample "3+4q!" 0 1 "0100010703" ∷
    sample "+18446744073709551615+1-1close" 7 1 "" ∷
    sample "1+18446744073709551615+1sp \"" 7 1 "" ∷
    sample "5-9sp" 0 1 "03000000010101" ∷
    sample "+5sp" 0 1 "030000000101ffffffffffffffffff01" ∷
    sample "1+18446744073709551615+1,2sp" 0 1 "03000000010102" ∷ []

sums_hold : all_agree sums ≡ true
unfolding agrees all_agree sums
sums_hold = refl

-- a record of each command that has one; the tab wins over a size, and vsplit over an axis
records : List Sample
records =
    sample "2on!" 0 1 "0101010203" ∷
    sample "+3resize 5-9" 0 1 "020200010300000000" ∷
    sample "vert res -2" 0 2 "0200010202" ∷
    sample "2,3vert! sp" 0 2 "04000001010101" ∷
    sample "bel vie! a" 0 2 "040301610300000101" ∷
    sample "tab 3sp" 0 2 "0a000000" ∷
    sample "3tab tab sp" 0 3 "0a000000" ∷
    sample "hor vs" 0 2 "04000001010101" ∷
    sample "vert vie %" 0 2 "04000201010101" ∷
    sample "vie #" 0 1 "050102" ∷
    sample "w! \\#" 0 1 "06000001012301" ∷
    sample "wa" 0 1 "06020000" ∷
    sample "$tabc" 0 1 "07000401" ∷
    sample "tabo" 0 1 "07010001" ∷
    sample "qa!" 0 1 "070203" ∷
    sample "tabfir" 0 1 "0803" ∷
    sample "tabl" 0 1 "0804" ∷
    sample "tabn" 0 1 "0802000001" ∷
    sample "tabp 3" 0 1 "080201010301" ∷
    sample "tabm 1+1" 0 1 "090102" ∷
    sample ".+2tabe a\\ b" 0 1 "0a0303612062000200010200" ∷ []

records_hold : all_agree records ≡ true
unfolding agrees all_agree records
records_hold = refl

-- refusals as met, and the readings begun
refusals : List Sample
refusals =
    sample "vert foo" 10 2 "03666f6f" ∷
    sample "vert!!" 11 2 "" ∷
    sample "s/a/b/" 11 1 "" ∷
    sample "vert 18446744073709551616q" 4 2 "" ∷
    sample "%tab q" 6 1 "" ∷
    sample "res" 5 1 "" ∷
    sample "res 1,2" 6 1 "" ∷
    sample "%resize +18446744073709551615+1" 7 1 "" ∷
    sample "+18446744073709551615+1resize %" 6 1 "" ∷
    sample "3tabn 5" 5 1 "" ∷
    sample "tabp 1+0" 6 1 "" ∷
    sample "1,2tabe a b" 5 1 "" ∷ []

refusals_hold : all_agree refusals ≡ true
unfolding agrees all_agree refusals
refusals_hold = refl

-- the checks 1, 12 and 2, in this order, and the most readings that the shipped words allow
tabs : ℕ → List ℕ
tabs zero = []
tabs (suc n) = 0x74 ∷ 0x61 ∷ 0x62 ∷ 0x20 ∷ tabs n

limits : (typed (replicate 1025 0xFF) 0 ≡ turned 1)
    × (typed (0xFF ∷ []) 40 ≡ turned 12)
    × (typed (0xFF ∷ []) 41 ≡ turned 2)
    × (typed [] 39 ≡ turned 12)
    × (typed [] 40 ≡ once Out.nothing)
    × (typed (tabs 256) 1063 ≡ turned 12)
    × (typed (tabs 256) 1064 ≡ record { out = Out.nothing; readings = 257 })
unfolding typed tabs
limits = (refl, refl, refl, refl, refl, refl, refl)
