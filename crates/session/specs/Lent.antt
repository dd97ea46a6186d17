-- The calls on a session that rests in bytes b: what each answers, and what bytes, line and store are afterwards.
-- Document 01: "99 comes before every other check and changes nothing. Lines are checked 1, 12, 2 .. Aliases: 8, 9, 13." "The remembered
-- line is set once checks 1, 12 and 2 pass, even if the line is then refused." "Adding one again replaces it." "Reading the remembered
-- line back copies it to the front of a lent store and answers its byte count, all other bytes unchanged; a store shorter than that line
-- is refusal 12 and stays untouched." "one call, which checks only the length, writes a fresh session there".
-- Assumes nothing.
use Rattle.std.specs.Prelude.{cond, List, ℕ, eqb, leb, length}
use Rattle.limits.specs.Limits.{last_command, alias_limit}
use Rattle.limits.specs.Refusals.{refusal_no}
use Rattle.limits.specs.declared.refusal.Refusal.{Refusal}
use Rattle.context.specs.Context as context
use Rattle.reading.specs.Alone.{line_room, checked_for, at_front}
use Rattle.tables.specs.Table.{is_name}
use Rattle.placing.specs.Change.{insert, is_full}
use Rattle.layout.specs.Layout.{session_size, Session, fresh, table_of, session_of, remembering, aliasing, written, sound}
use Rattle.commands.specs.Run.{Answer}
use Rattle.commands.specs.Line.{turned, line}

-- a fresh session ---------------------------------------------------------------------------------------------------------------------------

unfoldable pub fresh_no : List ℕ → ℕ
fresh_no b = cond (eqb (length b) session_size) 0 (refusal_no Refusal.NotASession)

unfoldable pub fresh_bytes : List ℕ → List ℕ
fresh_bytes b = cond (eqb (length b) session_size) (written fresh b) b

-- a line ------------------------------------------------------------------------------------------------------------------------------------

-- the line l on bytes b that are a session, where the store is so many bytes long: what it answers, and the bytes afterwards
abbrev pub line_on : List ℕ → List ℕ → ℕ → Answer
line_on b l size = line (table_of (session_of b)) context.fresh l size

abbrev pub bytes_on : List ℕ → List ℕ → ℕ → List ℕ
bytes_on b l size = checked_for (line_room l) (λ n. b) l size (remembering l b)

-- and on any bytes: 99 comes first
unfoldable pub line_answer : List ℕ → List ℕ → ℕ → Answer
line_answer b l size = cond (sound b) (line_on b l size) (turned (refusal_no Refusal.NotASession))

unfoldable pub line_bytes : List ℕ → List ℕ → ℕ → List ℕ
line_bytes b l size = cond (sound b) (bytes_on b l size) b

-- an alias ------------------------------------------------------------------------------------------------------------------------------------

-- 8, 9, 13: "A new alias when 32 are there."
unfoldable pub add_no : Session → List ℕ → ℕ → ℕ
add_no s w c =
    cond (is_name w) (cond (leb c last_command) (cond (is_full alias_limit s.rows w) (refusal_no Refusal.AliasesFull) 0) (refusal_no Refusal.BadCommand)) (refusal_no Refusal.BadAlias)

unfoldable pub alias_no : List ℕ → List ℕ → ℕ → ℕ
alias_no b w c = cond (sound b) (add_no (session_of b) w c) (refusal_no Refusal.NotASession)

unfoldable pub alias_bytes : List ℕ → List ℕ → ℕ → List ℕ
alias_bytes b w c = cond (eqb (alias_no b w c) 0) (aliasing (insert w c (session_of b).rows) b) b

-- the remembered line -------------------------------------------------------------------------------------------------------------------------

unfoldable pub read_back_no : List ℕ → ℕ → ℕ
read_back_no b size = cond (sound b) (cond (leb (length (session_of b).line) size) 0 (refusal_no Refusal.StoreTooShort)) (refusal_no Refusal.NotASession)

unfoldable pub read_back_count : List ℕ → ℕ → ℕ
read_back_count b size = cond (eqb (read_back_no b size) 0) (length (session_of b).line) 0

unfoldable pub read_back_store : List ℕ → List ℕ → List ℕ
read_back_store b store = cond (eqb (read_back_no b (length store)) 0) (at_front (session_of b).line store) store
