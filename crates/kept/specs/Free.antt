-- Bytes of a session that are not used are free. No rule looks at them: bytes that are taken, and others that are the same wherever these are
-- used, are the same session (`alike_read`). All others are fixed: bytes that are taken and are the same session are the same wherever they are
-- used (`read_alike`). And no call changes those that are free (`fresh_free`, `line_free`, `add_free`).
-- Assumes nothing.
use Rattle.std.specs.Prelude.{◌≡◌, Bool, cond, List, ℕ, length, Ok, Err}
use Rattle.std.proofs.Math.Path.{refl}
use Rattle.std.proofs.Common.{sym, ◌∙◌, ap}
use Rattle.std.proofs.Math.Bool.{true, false}
use Rattle.std.proofs.Math.Dec.{eqb}
use Rattle.scan.specs.Scan.{byte_at}
use Rattle.reading.specs.Alone.{check_for, by_check, checked_for, line_room, Checked}
use Rattle.fields.specs.Field.{Bytes, SameWhere}
use Rattle.placing.specs.Change.{insert}
use Rattle.layout.specs.Layout.{session_size, fresh, line_field, added_field, session_field, session_of, remembering, aliasing, written, sound}
use Rattle.layout.specs.SoundLaws.{sound_told, sound_is, sound_room, sound_written, fresh_formed, session_ok, session_lawful, line_lawful, line_ok, added_lawful, added_ok}
use Rattle.session.specs.Lent.{fresh_bytes, bytes_on, line_bytes, alias_no, alias_bytes}
use Rattle.kept.specs.Kept.{line_good, alias_taken, alias_good}

-- as long, and the same wherever b is used
pub record Alike (a b : List ℕ) : Type 0 where
  pub size : length a ≡ length b
  pub used : SameWhere session_field (session_of b) a b

-- no rule looks at them ---------------------------------------------------------------------------------------------------------------------

pub alike_read : (a b : List ℕ) → Bytes b → sound b ≡ true → Alike a b → (sound a ≡ true) × (session_of a ≡ session_of b)
unfolding session_of
alike_read a b w h k =
    let t = sound_told b h in
    let r = session_lawful.alike b a (sound_room b t.size) w (sym k.size) t.test (λ i u. sym (k.used i u)) in
    (sound_is a (k.size ∙ t.size) r.0, r.1)

-- the others are fixed ----------------------------------------------------------------------------------------------------------------------

pub read_alike : (a b : List ℕ) → Bytes a → Bytes b → sound a ≡ true → sound b ≡ true → session_of a ≡ session_of b → Alike a b
unfolding written
read_alike a b v w g h e =
    let p = sound_told a g in
    let q = sound_told b h in
    let x = sound_written a g v in
    let y = sound_written b h w in
    let s = session_of b in
    let ok = sym (session_ok s) ∙ y.0 in
    record {
      size = p.size ∙ sym q.size;
      used = λ i u.
          ap (λ c. byte_at c i) (sym (ap (λ z. written z a) (sym e) ∙ x.1))
          ∙ session_lawful.fixed s a b (sound_room a p.size) (sound_room b q.size) ok i u
          ∙ ap (λ c. byte_at c i) y.1;
    }

-- no call changes them ----------------------------------------------------------------------------------------------------------------------

module _ (b : List ℕ) (i : ℕ) where
  -- a fresh session changes the bytes that it uses
  pub fresh_free : session_field.uses fresh i ≡ false → byte_at (fresh_bytes b) i ≡ byte_at b i
  unfolding fresh_bytes written
  fresh_free h = go (eqb (length b) session_size)
    where
      go : (x : Bool) → byte_at (cond x (session_field.write fresh b) b) i ≡ byte_at b i
      go true = session_lawful.keeps fresh b (sym (session_ok fresh) ∙ fresh_formed) i h
      go false = refl

  -- a line changes its own bytes and its length
  pub line_free : (l : List ℕ) (size : ℕ) → line_field.uses l i ≡ false → byte_at (line_bytes b l size) i ≡ byte_at b i
  unfolding line_bytes checked_for remembering
  line_free l size h = go (sound b)
    where
      at : (k : Checked) → check_for (line_room l) l size ≡ k → byte_at (by_check (λ n. b) (line_field.write l b) k) i ≡ byte_at b i
      at (Ok tt) e = line_lawful.keeps l b (line_ok l ∙ line_good l size e) i h
      at (Err x) e = refl

      go : (w : Bool) → byte_at (cond w (bytes_on b l size) b) i ≡ byte_at b i
      go true = at (check_for (line_room l) l size) refl
      go false = refl

  -- an alias changes bytes of the aliases that are then there
  pub add_free : (w : List ℕ) (c : ℕ) → added_field.uses (insert w c (session_of b).rows) i ≡ false → byte_at (alias_bytes b w c) i ≡ byte_at b i
  unfolding alias_bytes aliasing
  add_free w c h = go (eqb (alias_no b w c) 0) refl
    where
      go : (x : Bool) → eqb (alias_no b w c) 0 ≡ x → byte_at (cond x (added_field.write (insert w c (session_of b).rows) b) b) i ≡ byte_at b i
      go true e = added_lawful.keeps (insert w c (session_of b).rows) b (added_ok (insert w c (session_of b).rows) ∙ alias_good b w c (alias_taken b w c e) e) i h
      go false e = refl
