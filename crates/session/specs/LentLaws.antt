-- Laws of the calls on a session in bytes, as the code cites them: one for each way in which a call ends.
-- Assumes nothing.
use Rattle.std.specs.Prelude.{◌≡◌, refl, true, false, List, ℕ, leb, length, Ok, Err}
use Rattle.limits.specs.Limits.{last_command, alias_limit}
use Rattle.limits.specs.Refusals.{refusal_no}
use Rattle.limits.specs.declared.refusal.Refusal.{Refusal}
use Rattle.context.specs.Context as context
use Rattle.reading.specs.Alone.{check_for, line_room, at_front}
use Rattle.reading.specs.Checks.{check_for_good, check_for_bad}
use Rattle.tables.specs.Table.{is_name}
use Rattle.placing.specs.Change.{insert, is_full}
use Rattle.layout.specs.Layout.{table_of, session_of, remembering, aliasing, sound}
use Rattle.commands.specs.Run.{out_no, out_bytes, line_from}
use Rattle.commands.specs.Line.{turned, line, store_after}
use Rattle.run.specs.Reply.{reply}
use Rattle.session.specs.Lent.{line_on, bytes_on, line_answer, line_bytes, add_no, alias_no, alias_bytes, read_back_no, read_back_count, read_back_store}

-- a line --------------------------------------------------------------------------------------------------------------------------------------

-- nothing is written of a line that is refused before any reading
pub nothing_written : (n : ℕ) (s : List ℕ) → s ≡ store_after (turned n).out s
unfolding store_after at_front out_bytes
nothing_written n s = refl

pub turned_reply : (n : ℕ) → record { refusal = n; readings = 0; count = 0 } ≡ reply (turned n)
unfolding reply out_no out_bytes
turned_reply n = refl

module _ (b l : List ℕ) (size : ℕ) where
  pub line_99 : sound b ≡ false → (line_answer b l size ≡ turned 99) × (line_bytes b l size ≡ b)
  unfolding line_answer line_bytes
  line_99 h = (rw h, rw h)

  pub line_on_lem : sound b ≡ true → (line_answer b l size ≡ line_on b l size) × (line_bytes b l size ≡ bytes_on b l size)
  unfolding line_answer line_bytes
  line_on_lem h = (rw h, rw h)

  pub on_bad : (x : Refusal) → check_for (line_room l) l size ≡ Err x → (line_on b l size ≡ turned (refusal_no x)) × (bytes_on b l size ≡ b)
  unfolding line
  on_bad x k = (check_for_bad (line_room l) l size x k turned _, check_for_bad (line_room l) l size x k (λ n. b) _)

  pub on_good : check_for (line_room l) l size ≡ Ok tt → (line_on b l size ≡ line_from (table_of (session_of b)) context.fresh l) × (bytes_on b l size ≡ remembering l b)
  unfolding line
  on_good k = (check_for_good (line_room l) l size k turned _, check_for_good (line_room l) l size k (λ n. b) _)

-- an alias ------------------------------------------------------------------------------------------------------------------------------------

module _ (b w : List ℕ) (c : ℕ) where
  pub alias_99 : sound b ≡ false → (alias_no b w c ≡ refusal_no Refusal.NotASession) × (alias_bytes b w c ≡ b)
  unfolding alias_no alias_bytes
  alias_99 h = (rw h, rw h)

  module _ (h : sound b ≡ true) where
    pub alias_word : is_name w ≡ false → (alias_no b w c ≡ refusal_no Refusal.BadAlias) × (alias_bytes b w c ≡ b)
    unfolding alias_no alias_bytes add_no
    alias_word k = (rw (h, k), rw (h, k))

    module _ (k : is_name w ≡ true) where
      pub alias_command : leb c last_command ≡ false → (alias_no b w c ≡ refusal_no Refusal.BadCommand) × (alias_bytes b w c ≡ b)
      unfolding alias_no alias_bytes add_no
      alias_command l = (rw (h, k, l), rw (h, k, l))

      module _ (l : leb c last_command ≡ true) where
        pub alias_full : is_full alias_limit (session_of b).rows w ≡ true → (alias_no b w c ≡ refusal_no Refusal.AliasesFull) × (alias_bytes b w c ≡ b)
        unfolding alias_no alias_bytes add_no
        alias_full f = (rw (h, k, l, f), rw (h, k, l, f))

        pub alias_added : is_full alias_limit (session_of b).rows w ≡ false → (alias_no b w c ≡ 0) × (alias_bytes b w c ≡ aliasing (insert w c (session_of b).rows) b)
        unfolding alias_no alias_bytes add_no
        alias_added f = (rw (h, k, l, f), rw (h, k, l, f))

-- the remembered line --------------------------------------------------------------------------------------------------------------------------

module _ (b store : List ℕ) where
  -- what reading it back answers, and the store afterwards
  abbrev pub ReadBack : ℕ → ℕ → List ℕ → Type 0
  ReadBack refusal count after =
      (refusal ≡ read_back_no b (length store)) × ((count ≡ read_back_count b (length store)) × (after ≡ read_back_store b store))

  pub read_back_99 : sound b ≡ false → ReadBack (refusal_no Refusal.NotASession) 0 store
  unfolding read_back_no read_back_count read_back_store
  read_back_99 h = (rw h, (rw h, rw h))

  pub read_back_short : sound b ≡ true → leb (length (session_of b).line) (length store) ≡ false → ReadBack (refusal_no Refusal.StoreTooShort) 0 store
  unfolding read_back_no read_back_count read_back_store
  read_back_short h k = (rw (h, k), (rw (h, k), rw (h, k)))

  pub read_back_good : sound b ≡ true → leb (length (session_of b).line) (length store) ≡ true → ReadBack 0 (length (session_of b).line) (at_front (session_of b).line store)
  unfolding read_back_no read_back_count read_back_store
  read_back_good h k = (rw (h, k), (rw (h, k), rw (h, k)))
