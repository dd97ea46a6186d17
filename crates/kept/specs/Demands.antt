-- Demand 3 for sessions. Document 01, "For demand 3": its claims (Statement.antt of demands) hold of the words of every well-formed session,
-- and so of every session that a call takes, since its aliases are 1 to 24 word characters.
-- Assumes nothing.
use Rattle.std.specs.Prelude.{◌≡◌, true, ◌&&◌, List, [], ◌∷◌, ℕ, ◌+◌, ◌≤◌, leb, length}
use Rattle.limits.specs.Limits.{last_command, alias_limit}
use Rattle.words.specs.Words.{Row}
use Rattle.fields.specs.BoolLaws.{and_both}
use Rattle.tables.specs.Table.{is_after, is_name, good_row, good_rows, good_table}
use Rattle.context.specs.Context.{fresh}
use Rattle.reading.specs.Behind.{NoNewline}
use Rattle.commands.specs.Line.{store_after}
use Rattle.demands.specs.Statement.{Passes, joined, typed, AllAlone, context_from, lasts, AboutLists, AboutReadings}
use Rattle.demands.specs.Shortest.{shortest, limit, Aliases}
use Rattle.demands.proofs.Demand3.{demand3_lists, demand3_readings, demand3_limit}
use Rattle.layout.specs.Layout.{Session, well_formed, table_of, session_of, sound}
use Rattle.layout.specs.SoundLaws.{formed_rows, sound_rows}
use Rattle.session.specs.Lent.{line_answer}

-- aliases -----------------------------------------------------------------------------------------------------------------------------------

rows_aliases : (before : List ℕ) (rs : List Row) → good_rows before rs ≡ true → Aliases rs
unfolding good_rows good_row
rows_aliases before [] h = tt
rows_aliases before (r ∷ rs) h =
    let k = and_both (good_row before r) (good_rows r.word rs) h in
    let n = (and_both (is_after before r.word && is_name r.word) (leb r.command last_command) k.0).0 in
    ((and_both (is_after before r.word) (is_name r.word) n).1, rows_aliases r.word rs k.1)

good_aliases : (rs : List Row) → good_table alias_limit rs ≡ true → Aliases rs
unfolding good_table
good_aliases rs h = rows_aliases [] rs (and_both (good_rows [] rs) (leb (length rs) alias_limit) h).0

-- a session ---------------------------------------------------------------------------------------------------------------------------------

-- prefixes before a last text
pub session_lists : (s : Session) → AboutLists (table_of s)
session_lists s = demand3_lists s.rows

module _ (s : Session) (f : well_formed s ≡ true) where
  -- the readings of a line
  pub session_readings : AboutReadings (table_of s)
  session_readings = demand3_readings s.rows (good_aliases s.rows (formed_rows s f))

  -- the same, with the shortest word's length computed
  pub session_limit : (l store : List ℕ) → (typed (table_of s) fresh l store).readings ≤ limit (shortest (table_of s)) (length l)
  session_limit = demand3_limit s.rows (good_aliases s.rows (formed_rows s f))

-- bytes -------------------------------------------------------------------------------------------------------------------------------------

-- the words of the session
abbrev pub words_of : List ℕ → List Row
words_of b = table_of (session_of b)

-- the claim about a list (`ListClaim`), of what the call on a line answers
pub record LineClaim (b : List ℕ) (ps : List (List ℕ)) (t store : List ℕ) : Type 0 where
  pub last_of_each : context_from (words_of b) fresh ps ≡ lasts (words_of b) ps
  pub same_out : (line_answer b (joined ps t) (length store)).out ≡ (typed (words_of b) (context_from (words_of b) fresh ps) t store).out
  pub same_store : store_after (line_answer b (joined ps t) (length store)).out store ≡
      store_after (typed (words_of b) (context_from (words_of b) fresh ps) t store).out store
  pub counted : (line_answer b (joined ps t) (length store)).readings ≡ length ps + (line_answer b t (length store)).readings

module _ (b : List ℕ) (h : sound b ≡ true) where
  -- prefixes before a last text
  pub bytes_lists : (ps : List (List ℕ)) (t store : List ℕ) → AllAlone (words_of b) store ps → NoNewline (joined ps t) → Passes (joined ps t) store →
      LineClaim b ps t store
  unfolding line_answer
  bytes_lists ps t store a n p =
      let k = session_lists (session_of b) ps t store a n p in
      record { last_of_each = k.last_of_each; same_out = rw h k.same_out; same_store = rw h k.same_store; counted = rw h k.counted }

  -- the readings of a line
  pub bytes_readings : AboutReadings (words_of b)
  bytes_readings = demand3_readings (session_of b).rows (good_aliases (session_of b).rows (sound_rows b h))

  -- what the call on a line answers
  pub bytes_limit : (l store : List ℕ) → (line_answer b l (length store)).readings ≤ limit (shortest (words_of b)) (length l)
  unfolding line_answer
  bytes_limit l store = rw h (demand3_limit (session_of b).rows (good_aliases (session_of b).rows (sound_rows b h)) l store)
