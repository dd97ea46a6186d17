-- Worked examples for demand 3, each by computation: its hypotheses can be met, its bound is reached, and it is false with an alias `!`.
-- Document 01, "For demand 3"; section Session: "the Rust accepts any text, `!` included (a difference)".
-- Assumes nothing.
use Rattle.std.specs.Prelude.{◌≡◌, refl, List, [], ◌∷◌, ℕ, replicate}
use Rattle.std.proofs.Math.Option.{Option, none, some}
use Prim.Native.String.{String}
use Rattle.std.proofs.Common.{arith}
use Rattle.scan.specs.Ascii.{ascii}
use Rattle.scan.specs.Bytes.{is_space, is_colon, is_digit, is_word, is_mark, is_text}
use Rattle.scan.specs.Scan.{run_from, run_at, value_from, digits_from, digits_at}
use Rattle.utf8.specs.Utf8.{is_utf8, utf8_at, utf8_from, utf8_step, followers, lowest, highest}
use Rattle.ranges.specs.Range.{is_sign, escaped_atom, mark_atom, sign_atom, number_or, atom_at, offsets_from, offsets_at, with_offsets, after_atom, ending_at, double, after_first, range_at}
use Rattle.reading.specs.Alone.{check_for, checked_for, line_room}
use Rattle.reading.specs.Line.{skip_byte, word_at, rest_at, after_word, after_range, start_of, reading_of}
use Rattle.focus.specs.Focus.{placed, end_focus, range_focus, focus_of}
use Rattle.focus.specs.Sum.{apart, add_is, add_to, sum_from, sum_at, sum_of, moved}
use Rattle.words.specs.Words.{Row, aliases, names, shipped, table_with, same, lookup_in}
use Rattle.context.specs.Context.{fresh}
use Rattle.commands.specs.Handle.{role_of}
use Rattle.commands.specs.Run.{by_focus, by_role, by_name, by_reading, role_named, decide, change, trim, step, run, run_on, line_from}
use Rattle.commands.specs.Line.{line}
use Rattle.demands.proofs.Demand3.{demand3_lists}
use Rattle.demands.specs.Shortest.{names_prefix, shortest_of, shortest, limit}
use Rattle.demands.specs.Statement.{typed, AllAlone, ListClaim}

store : List ℕ
store = replicate 100 7

-- a list of prefixes ----------------------------------------------------------------------------------------------------------------------

prefixes : List (List ℕ)
prefixes = ascii " :3-1tab!" ∷ ascii "%vert" ∷ []

-- spaces, colons, a range and a bang are a prefix's own; only tab looks at its range
alone : AllAlone shipped store prefixes
unfolding store prefixes is_space is_colon is_digit is_word is_mark is_text run_from run_at value_from digits_from digits_at is_utf8 utf8_at utf8_from utf8_step followers lowest highest is_sign escaped_atom mark_atom sign_atom number_or atom_at offsets_from offsets_at with_offsets after_atom ending_at double after_first range_at check_for checked_for line_room skip_byte word_at rest_at after_word after_range start_of reading_of placed end_focus range_focus focus_of apart add_is add_to sum_from sum_at sum_of moved aliases names shipped same lookup_in role_of by_focus by_role by_name by_reading role_named decide change trim step run run_on line_from line
alone = (
  record { its = _; reads = refl; no_argument = refl; names = tt; accepted = tt },
  (record { its = _; reads = refl; no_argument = refl; names = tt; accepted = tt }, tt),
)

-- ` :3-1tab! %vert !q`: the last text starts with a `!` that is no bang of the prefix before it
before_bang : ListClaim shipped prefixes (ascii "!q") store
unfolding store prefixes line_room is_utf8 utf8_at utf8_from utf8_step followers lowest highest
before_bang =
    demand3_lists [] prefixes (ascii "!q") store alone
    (refl, (refl, (refl, (refl, (refl, (refl, (refl, (refl, (refl, (refl, (refl, (refl, (refl, (refl, (refl, (refl, (refl, (refl, tt))))))))))))))))))
    (record { short = omega arith; room = omega arith; good = refl })

-- the bound -------------------------------------------------------------------------------------------------------------------------------

count : List Row → String → ℕ
unfolding store is_space is_colon is_digit is_word is_mark is_text run_from run_at value_from digits_from digits_at is_utf8 utf8_at utf8_from utf8_step followers lowest highest is_sign escaped_atom mark_atom sign_atom number_or atom_at offsets_from offsets_at with_offsets after_atom ending_at double after_first range_at check_for checked_for line_room skip_byte word_at rest_at after_word after_range start_of reading_of placed end_focus range_focus focus_of apart add_is add_to sum_from sum_at sum_of moved aliases names shipped same lookup_in role_of by_focus by_role by_name by_reading role_named decide change trim step run run_on line_from line
count added t = (typed (table_with added) fresh (ascii t) store).readings

m : List Row → Option ℕ
unfolding aliases names shipped same lookup_in role_of role_named names_prefix shortest_of shortest
m added = shortest (table_with added)

abbrev row : String → ℕ → Row
row w n = record { word = ascii w; command = n }

-- as shipped 11 bytes take four readings, which is the bound
tabs : (m [] ≡ some 3) × (count [] "tab tab tab" ≡ 4) × (limit (some 3) 11 ≡ 4)
unfolding m count
tabs = (refl, refl, refl)

-- with `v` for vertical, 5 bytes do
letter : (m (row "v" 25 ∷ []) ≡ some 1) × (count (row "v" 25 ∷ []) "v v v" ≡ 4) × (limit (some 1) 5 ≡ 4)
unfolding m count
letter = (refl, refl, refl)

-- all thirteen prefix words hidden
hidden : List Row
hidden =
    row "tab" 7 ∷ row "hor" 7 ∷ row "horizontal" 7 ∷ row "vert" 7 ∷ row "vertical" 7 ∷ row "lefta" 7 ∷ row "leftabove" 7 ∷ row "abo" 7
    ∷ row "aboveleft" 7 ∷ row "rightb" 7 ∷ row "rightbelow" 7 ∷ row "bel" 7 ∷ row "belowright" 7 ∷ []

none_left : (m hidden ≡ none) × (count hidden "tab tab tab" ≡ 1)
unfolding m count hidden
none_left = (refl, refl)

-- an alias `!` is no alias of a session: 4 bytes would take four readings, one more than the bound
bang : (m (row "!" 25 ∷ row "a" 25 ∷ []) ≡ some 1) × (count (row "!" 25 ∷ row "a" 25 ∷ []) "!a!a" ≡ 4) × (limit (some 1) 4 ≡ 3)
unfolding m count
bang = (refl, refl, refl)
