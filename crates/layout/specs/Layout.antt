-- A session: the line that it remembers and its added aliases. In bytes it is fields one behind the other: first the line, behind its
-- length in two bytes, and then the aliases, a table by length. Bytes that are not used are free: no rule looks at them, and no call
-- changes them. A further field of a session is appended to these.
-- Assumes nothing.
use Rattle.std.specs.Prelude.{Bool, ◌&&◌, List, [], ℕ, ◌+◌, ◌*◌, eqb, leb, length}
use Rattle.limits.specs.Limits.{line_limit, word_limit, alias_limit}
use Rattle.utf8.specs.Utf8.{is_utf8}
use Rattle.words.specs.Words.{Row, table_with}
use Rattle.fields.specs.Field.{Field, then_field, both, guarded, formed_as, two_field, bytes_field}
use Rattle.tables.specs.Table.{good_table, table}

-- a session ---------------------------------------------------------------------------------------------------------------------------------

-- what it holds: a line, and words with their commands
pub record Session : Type 0 where
  pub line : List ℕ
  pub rows : List Row

-- "A fresh session remembers the empty line and has no added alias."
abbrev pub fresh : Session
fresh = record { line = []; rows = [] }

-- the same session with another line, and with other aliases
abbrev pub with_line : List ℕ → Session → Session
with_line l s = record { line = l; rows = s.rows }

abbrev pub with_rows : List Row → Session → Session
with_rows rs s = record { line = s.line; rows = rs }

-- the words of a session: added aliases first
abbrev pub table_of : Session → List Row
table_of s = table_with s.rows

-- a line that passes checks 1 and 2
unfoldable pub good_line : List ℕ → Bool
good_line l = leb (length l) line_limit && is_utf8 l

-- "Up to 32 aliases are added, each 1 to 24 word characters", to commands; no word twice
unfoldable pub well_formed : Session → Bool
well_formed s = good_line s.line && good_table alias_limit s.rows

-- in bytes ----------------------------------------------------------------------------------------------------------------------------------

-- the places: the line's length, the line, the aliases, and the end
abbrev pub line_count : ℕ
line_count = 0

abbrev pub line_place : ℕ
line_place = 2

abbrev pub added_place : ℕ
added_place = line_place + line_limit

abbrev pub session_size : ℕ
session_size = added_place + (1 + word_limit) + alias_limit + word_limit * alias_limit

-- the line, behind its length
unfoldable pub line_field : Field (List ℕ)
line_field =
    formed_as (guarded (then_field (two_field line_count) (λ n. bytes_field line_place line_limit n) added_place) (λ x. is_utf8 x.1))
    (λ x. x.1) (λ l. (length l, l)) good_line

-- the aliases
unfoldable pub added_field : Field (List Row)
added_field = table added_place alias_limit

-- all of it
abbrev pub Held : Type 0
Held = List ℕ × List Row

abbrev pub session_from : Held → Session
session_from x = record { line = x.0; rows = x.1 }

abbrev pub held_by : Session → Held
held_by s = (s.line, s.rows)

unfoldable pub session_field : Field Session
session_field = formed_as (both line_field added_field) session_from held_by well_formed

-- the session that bytes are read as
unfoldable pub session_of : List ℕ → Session
session_of b = session_field.read b

-- the line and the aliases written, and all other bytes as they were
unfoldable pub remembering : List ℕ → List ℕ → List ℕ
remembering l b = line_field.write l b

unfoldable pub aliasing : List Row → List ℕ → List ℕ
aliasing rs b = added_field.write rs b

-- a session written over bytes
unfoldable pub written : Session → List ℕ → List ℕ
written s b = session_field.write s b

-- "session bytes of another length, or that no session is written as"
unfoldable pub sound : List ℕ → Bool
sound b = eqb (length b) session_size && session_field.test b
