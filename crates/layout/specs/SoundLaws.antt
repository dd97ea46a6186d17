-- Sessions in bytes. Document 01: refusal 99 is for "session bytes of another length, or that no session is written as": what is taken is
-- written by a well-formed session (`sound_written`), and what a well-formed session is written as is taken and read as that session
-- (`written_sound`). A field written over bytes that are taken leaves such bytes, and the session with this field changed (`part_sound`).
-- Assumes nothing.
use Rattle.std.specs.Prelude.{◌≡◌, refl, true, false, ◌&&◌, List, [], ◌∷◌, ℕ, ◌+◌, ◌<◌, ◌≤◌, eqb, length, set}
use Rattle.std.proofs.Common.{sym, ◌∙◌, arith}
use Rattle.std.proofs.Math.Path.{ap}
use Rattle.std.proofs.Math.Bool.{not}
use Rattle.std.proofs.lemmas.Bool.{false≢true}
use Rattle.std.proofs.Math.Dec.{leb}
use Rattle.std.proofs.lemmas.List.Edits.{sets}
use Rattle.scan.specs.Bytes.{is_word}
use Rattle.scan.specs.Scan.{byte_at, part_of, run_at}
use borrow.Author.Tests.{eqb-true, leb-true, eq-eqb, ne_eqb, le-leb, lt-leb}
use Rattle.limits.specs.Limits.{line_limit, word_limit, alias_limit}
use Rattle.utf8.specs.Utf8.{is_utf8, utf8_at, utf8_from}
use Rattle.scan.specs.PartLaws.{part_none}
use Rattle.words.specs.Words.{Row, table_with}
use Rattle.fields.specs.BoolLaws.{and_both, and_of}
use Rattle.fields.specs.Field.{Field, Bytes, Lawful, then_field, both, guarded, formed_as, two_at, two, two_field, fit, bytes_field}
use Rattle.fields.specs.FieldLaws.{then_lawful, both_lawful, guarded_lawful, formed_lawful, Part, part_self, part_first, part_second, part_formed}
use Rattle.fields.specs.BasicLaws.{fit_is, two_lawful, bytes_lawful}
use Rattle.placing.specs.Change.{insert, is_full, has_place, inserting}
use Rattle.tables.specs.Table.{is_name, good_rows, good_table, commands_of, words_of, commands_at, words_at, table}
use Rattle.tables.specs.FrameLaws.{framed_not, rows_unframed, rows_empty, write_is}
use Rattle.tables.specs.TableLaws.{table_from, table_to, table_ok, table_lawful, table_good, table_count}
use Rattle.layout.specs.Layout.{line_count, line_place, added_place, session_size, Session, fresh, with_line, with_rows, table_of, good_line, well_formed, line_field, added_field, session_from, held_by, session_field, session_of, remembering, aliasing, written, sound}

-- each field is lawful, and where it lies -------------------------------------------------------------------------------------------------------

line_parts : Lawful (then_field (two_field line_count) (λ n. bytes_field line_place line_limit n) added_place)
unfolding two_field bytes_field
line_parts =
    then_lawful (two_field line_count) (λ n. bytes_field line_place line_limit n) added_place (two_lawful line_count) (λ n. bytes_lawful line_place line_limit n)
    (λ n. omega arith) (λ n. omega arith) (omega arith)

pub line_lawful : Lawful line_field
unfolding line_field guarded then_field two_field bytes_field good_line
line_lawful =
    let parts = then_field (two_field line_count) (λ n. bytes_field line_place line_limit n) added_place in
    formed_lawful (guarded parts (λ x. is_utf8 x.1)) (guarded_lawful parts line_parts (λ x. is_utf8 x.1)) (λ x. x.1) (λ l. (length l, l)) good_line
    (λ x k.
    let p = and_both (leb x.0 65535 && (leb x.0 line_limit && eqb (length x.1) x.0)) (is_utf8 x.1) k in
    let q = and_both (leb x.0 65535) (leb x.0 line_limit && eqb (length x.1) x.0) p.0 in
    let r = and_both (leb x.0 line_limit) (eqb (length x.1) x.0) q.1 in
    let e = eqb-true (length x.1) x.0 r.1 in
    ((λ i. (e i, x.1)), and_of (ap (λ (n : ℕ). leb n line_limit) e ∙ r.0) p.1))
    (λ l k.
    let p = and_both (leb (length l) line_limit) (is_utf8 l) k in
    let n = leb-true (length l) line_limit p.0 in
    (refl, and_of (and_of (le-leb (length l) 65535 (omega arith)) (and_of p.0 (eq-eqb (length l) (length l) refl))) p.1))

pub added_lawful : Lawful added_field
unfolding added_field
added_lawful = table_lawful added_place alias_limit (omega arith)

line_to : line_field.to ≡ added_place
unfolding line_field formed_as guarded then_field
line_to = refl

added_from : added_field.from ≡ added_place
unfolding added_field
added_from = table_from added_place alias_limit

added_to_lem : added_field.to ≡ session_size
unfolding added_field
added_to_lem = table_to added_place alias_limit

pub line_ok : (l : List ℕ) → line_field.ok l ≡ good_line l
unfolding line_field formed_as
line_ok l = refl

pub added_ok : (rs : List Row) → added_field.ok rs ≡ good_table alias_limit rs
unfolding added_field
added_ok rs = table_ok added_place alias_limit rs

-- the aliases of a well-formed session
pub formed_rows : (s : Session) → well_formed s ≡ true → good_table alias_limit s.rows ≡ true
unfolding well_formed
formed_rows s f = (and_both (good_line s.line) (good_table alias_limit s.rows) f).1

-- the whole -----------------------------------------------------------------------------------------------------------------------------------------

next : line_field.to ≤ added_field.from
next = omega (arith, line_to, added_from)

held_ok : (s : Session) → (both line_field added_field).ok (held_by s) ≡ well_formed s
unfolding then_field well_formed
held_ok s = ap (λ t. t && added_field.ok s.rows) (line_ok s.line) ∙ ap (λ t. good_line s.line && t) (added_ok s.rows)

pub session_lawful : Lawful session_field
unfolding session_field
session_lawful =
    formed_lawful (both line_field added_field) (both_lawful line_field added_field line_lawful added_lawful next) session_from held_by well_formed
    (λ x k. (refl, sym (held_ok (session_from x)) ∙ k)) (λ s k. (refl, held_ok s ∙ k))

pub session_ok : (s : Session) → well_formed s ≡ session_field.ok s
unfolding session_field formed_as
session_ok s = refl

session_to : session_field.to ≡ session_size
unfolding session_field formed_as then_field
session_to = added_to_lem

-- a field of it written leaves the others: each further field wraps these once more
line_part : Part line_field session_field with_line
unfolding session_field
line_part =
    part_formed line_field (both line_field added_field) session_from held_by well_formed _ with_line (λ l x. refl)
    (part_first line_field line_field added_field line_lawful line_lawful added_lawful next (λ x y. x) (part_self line_field line_lawful))

added_part : Part added_field session_field with_rows
unfolding session_field
added_part =
    part_formed added_field (both line_field added_field) session_from held_by well_formed _ with_rows (λ rs x. refl)
    (part_second added_field line_field added_field added_lawful line_lawful added_lawful next (λ x y. x) (part_self added_field added_lawful))

-- taken and written -------------------------------------------------------------------------------------------------------------------------------

-- bytes that are taken, and read as the session s
abbrev pub ReadAs : List ℕ → Session → Type 0
ReadAs b s = (sound b ≡ true) × (session_of b ≡ s)

pub record Sound (b : List ℕ) : Type 0 where
  pub size : length b ≡ session_size
  pub test : session_field.test b ≡ true

module _ (b : List ℕ) where
  pub sound_told : sound b ≡ true → Sound b
  unfolding sound
  sound_told h = let p = and_both (eqb (length b) session_size) (session_field.test b) h in record { size = eqb-true (length b) session_size p.0; test = p.1 }

  pub sound_is : length b ≡ session_size → session_field.test b ≡ true → sound b ≡ true
  unfolding sound
  sound_is e t = and_of (eq-eqb (length b) session_size e) t

  -- each of its fields is taken; its aliases are good
  pub sound_table : sound b ≡ true → (table added_place alias_limit).test b ≡ true
  unfolding added_field
  sound_table h = added_part.taken b (sound_told h).test

  pub sound_rows : sound b ≡ true → good_table alias_limit (session_of b).rows ≡ true
  unfolding session_of session_field formed_as then_field added_field
  sound_rows h = table_good added_place alias_limit b (sound_table h)

  pub sound_count : sound b ≡ true → length (session_of b).rows ≡ byte_at b added_place
  unfolding session_of session_field formed_as then_field added_field
  sound_count h = table_count added_place alias_limit b (sound_table h)

  -- where its line is
  line_read : line_field.test b ≡ true → line_field.read b ≡ part_of b line_place (line_place + two_at b line_count)
  unfolding line_field formed_as guarded then_field two_field bytes_field
  line_read t =
      let n = two_at b line_count in
      ap (λ (k : ℕ). part_of b line_place (line_place + k)) (fit_is n line_limit (and_both (leb n line_limit) (is_utf8 (part_of b line_place (line_place + fit n line_limit))) t).0)

  pub sound_line : sound b ≡ true → (session_of b).line ≡ part_of b line_place (line_place + two_at b line_count)
  unfolding session_of session_field formed_as then_field
  sound_line h = line_read (line_part.taken b (sound_told h).test)

  -- there is room for every field
  pub sound_room : length b ≡ session_size → session_field.to ≤ length b
  sound_room e = omega (arith, session_to)

  -- what is taken is read as a well-formed session, and written by it
  pub sound_written : sound b ≡ true → Bytes b → (well_formed (session_of b) ≡ true) × (written (session_of b) b ≡ b)
  unfolding session_of written
  sound_written h w =
      let t = sound_told h in
      (session_ok (session_field.read b) ∙ session_lawful.formed b (sound_room t.size) w t.test, session_lawful.again b (sound_room t.size) w t.test)

-- what a well-formed session is written as is taken, and read as that session
pub written_sound : (s : Session) (b : List ℕ) → well_formed s ≡ true → length b ≡ session_size → ReadAs (written s b) s
unfolding session_of written
written_sound s b f e =
    let r = session_lawful.back s b (sound_room b e) (sym (session_ok s) ∙ f) in
    (sound_is (session_field.write s b) (session_lawful.size s b ∙ e) r.0, r.1)

-- a fresh session is three bytes that are 0
pub fresh_is : (b : List ℕ) → written fresh b ≡ set (sets b line_count (two 0)) added_place 0
unfolding written session_field formed_as then_field line_field guarded two_field bytes_field added_field commands_of words_of
fresh_is b = write_is added_place alias_limit (sets b line_count (two 0)) [] ∙ none
  where
    none : sets (sets (sets (sets (sets b line_count (two 0)) added_place (0 ∷ [])) (added_place + 1) []) (commands_at added_place) (commands_of [])) (words_at added_place alias_limit) (words_of []) ≡
        set (sets b line_count (two 0)) added_place 0
    none = refl

-- what is not taken is what no session is written as
pub unsound_unwritten : (s : Session) (b c : List ℕ) → sound b ≡ false → well_formed s ≡ true → length c ≡ session_size → written s c ≡ b → ⊥
unsound_unwritten s b c h f e w = false≢true (sym (ap sound w ∙ h) ∙ (written_sound s c f e).0)

-- a fresh session
pub fresh_formed : well_formed fresh ≡ true
unfolding well_formed good_line good_table good_rows is_utf8 utf8_at utf8_from
fresh_formed = refl

pub fresh_sound : (b : List ℕ) → length b ≡ session_size → ReadAs (written fresh b) fresh
fresh_sound b e = written_sound fresh b fresh_formed e

-- one field written over bytes that are taken
part_sound : {A : Type 0} (f : Field A) (put : A → Session → Session) → Lawful f → Part f session_field put → (x : A) (b : List ℕ) → f.ok x ≡ true → sound b ≡ true →
    ReadAs (f.write x b) (put x (session_of b))
unfolding session_of
part_sound f put l p x b k h =
    let t = sound_told b h in
    let r = p.written x b (sound_room b t.size) k t.test in
    (sound_is (f.write x b) (l.size x b ∙ t.size) r.0, r.1)

pub remember_sound : (l b : List ℕ) → sound b ≡ true → good_line l ≡ true → ReadAs (remembering l b) (with_line l (session_of b))
unfolding remembering
remember_sound l b h k = part_sound line_field with_line line_lawful line_part l b (line_ok l ∙ k) h

pub alias_sound : (rs : List Row) (b : List ℕ) → sound b ≡ true → good_table alias_limit rs ≡ true → ReadAs (aliasing rs b) (with_rows rs (session_of b))
unfolding aliasing
alias_sound rs b h k = part_sound added_field with_rows added_lawful added_part rs b (added_ok rs ∙ k) h

-- told step by step -----------------------------------------------------------------------------------------------------------------------------

module _ (b : List ℕ) where
  pub sound_other : (length b ≡ session_size → ⊥) → sound b ≡ false
  unfolding sound
  sound_other h = rw (ne_eqb (length b) session_size h)

  module _ (e : length b ≡ session_size) where
    pub sound_long : line_limit < two_at b line_count → sound b ≡ false
    unfolding sound session_field formed_as then_field line_field guarded two_field bytes_field
    sound_long h = rw (eq-eqb (length b) session_size e, lt-leb (two_at b line_count) line_limit h)

    module _ (h : two_at b line_count ≤ line_limit) where
      pub sound_text : is_utf8 (part_of b line_place (line_place + two_at b line_count)) ≡ false → sound b ≡ false
      unfolding sound session_field formed_as then_field line_field guarded two_field bytes_field fit
      sound_text k = rw (eq-eqb (length b) session_size e, le-leb (two_at b line_count) line_limit h, k)

      pub sound_added : is_utf8 (part_of b line_place (line_place + two_at b line_count)) ≡ true → sound b ≡ (table added_place alias_limit).test b
      unfolding sound session_field formed_as then_field line_field guarded two_field bytes_field fit added_field
      sound_added k = rw (eq-eqb (length b) session_size e, le-leb (two_at b line_count) line_limit h, k)

-- bytes that have no aliases, and no bytes
pub rows_none : (b : List ℕ) → byte_at b added_place ≡ 0 → (session_of b).rows ≡ []
unfolding session_of session_field formed_as then_field added_field
rows_none b h = rows_empty added_place alias_limit b h

pub rows_nowhere : (b : List ℕ) → length b ≡ 0 → (session_of b).rows ≡ []
unfolding session_of session_field formed_as then_field added_field
rows_nowhere b h = rows_unframed added_place alias_limit b (framed_not added_place alias_limit b (λ f. omega (arith, f.size)))

-- so the words are the same
pub words_none : (b c : List ℕ) → byte_at b added_place ≡ 0 → c ≡ part_of b 0 0 → table_of (session_of c) ≡ table_of (session_of b)
words_none b c h e = ap table_with (ap (λ v. (session_of v).rows) e ∙ rows_nowhere (part_of b 0 0) (ap length (part_none b 0 0 (omega arith))) ∙ sym (rows_none b h))

-- an alias put in -------------------------------------------------------------------------------------------------------------------------------

module _ (b w : List ℕ) (h : sound b ≡ true) (n : is_name w ≡ true) where
  -- there is a place for it, or 32 are there
  place_is : has_place added_place alias_limit w b ≡ not (is_full alias_limit (session_of b).rows w)
  unfolding has_place is_name session_of session_field formed_as then_field added_field
  place_is =
      let p = (and_both (leb 1 (length w) && leb (length w) word_limit) (eqb (run_at is_word w 0) (length w)) n).0 in
      let q = and_both (leb 1 (length w)) (leb (length w) word_limit) p in
      rw (q.0, q.1, sound_table b h)

  pub put_in : (c : ℕ) → is_full alias_limit (session_of b).rows w ≡ false → inserting added_place alias_limit w c b ≡ aliasing (insert w c (session_of b).rows) b
  unfolding inserting aliasing session_of session_field formed_as then_field added_field
  put_in c f = rw (place_is ∙ ap not f)
