-- Every call keeps a session sound, and what the session then is. Document 01: "The remembered line is set once checks 1, 12 and 2 pass,
-- even if the line is then refused." "99 comes before every other check and changes nothing."
-- Assumes nothing.
use Rattle.std.specs.Prelude.{◌≡◌, refl, Bool, true, false, cond, List, ℕ, eqb, leb, length, Ok, Err}
use Rattle.std.proofs.Common.{sym, ◌∙◌, arith, eqb-true, leb-true, le-leb}
use Rattle.limits.specs.Limits.{line_limit, last_command, alias_limit}
use Rattle.reading.specs.Alone.{check_for, by_check, checked_for, line_room, Checked}
use Rattle.reading.specs.Checks.{check_for_passed}
use Rattle.words.specs.Words.{Row}
use Rattle.fields.specs.BoolLaws.{and_of}
use Rattle.tables.specs.Table.{is_name, good_table}
use Rattle.placing.specs.Change.{insert, is_full}
use Rattle.placing.specs.KeepLaws.{insert_good}
use Rattle.layout.specs.Layout.{session_size, fresh, with_line, with_rows, good_line, session_of, remembering, aliasing, written, sound}
use Rattle.layout.specs.SoundLaws.{ReadAs, fresh_sound, sound_rows, remember_sound, alias_sound}
use Rattle.session.specs.Lent.{fresh_bytes, line_bytes, add_no, alias_no, alias_bytes}

-- a fresh session ---------------------------------------------------------------------------------------------------------------------------

-- it stands in bytes of the right length, and in no others
sound_length : (b : List ℕ) → eqb (length b) session_size ≡ false → sound b ≡ false
unfolding sound
sound_length b e = rw e

pub fresh_kept : (b : List ℕ) → sound (fresh_bytes b) ≡ eqb (length b) session_size
unfolding fresh_bytes
fresh_kept b = go (eqb (length b) session_size) refl
  where
    go : (x : Bool) → eqb (length b) session_size ≡ x → sound (cond x (written fresh b) b) ≡ x
    go true e = (fresh_sound b (eqb-true (length b) session_size e)).0
    go false e = sound_length b e

-- a line ------------------------------------------------------------------------------------------------------------------------------------

-- one that passes the checks may be remembered
pub line_good : (l : List ℕ) (size : ℕ) → check_for (line_room l) l size ≡ Ok tt → good_line l ≡ true
unfolding good_line
line_good l size e = let p = check_for_passed (line_room l) l size e in and_of (le-leb (length l) line_limit p.0) p.2

-- it changes nothing but the line, which is remembered exactly where it passes checks 1, 12 and 2
pub line_read : (b l : List ℕ) (size : ℕ) → sound b ≡ true →
    ReadAs (line_bytes b l size) (with_line (checked_for (line_room l) (λ n. (session_of b).line) l size l) (session_of b))
unfolding line_bytes checked_for
line_read b l size h = rw h (go (check_for (line_room l) l size) refl)
  where
    go : (k : Checked) → check_for (line_room l) l size ≡ k →
        ReadAs (by_check (λ n. b) (remembering l b) k) (with_line (by_check (λ n. (session_of b).line) l k) (session_of b))
    go (Ok tt) e = remember_sound l b h (line_good l size e)
    go (Err x) e = (h, refl)

pub line_kept : (b l : List ℕ) (size : ℕ) → sound (line_bytes b l size) ≡ sound b
unfolding line_bytes
line_kept b l size = go (sound b) refl
  where
    go : (x : Bool) → sound b ≡ x → sound (line_bytes b l size) ≡ x
    go true e = (line_read b l size e).0
    go false e = rw e e

-- an alias ----------------------------------------------------------------------------------------------------------------------------------

-- the answer 0
alias_zero : (a k f : Bool) → ◌≡◌ {A = ℕ} (cond a (cond k (cond f 13 0) 9) 8) 0 → (a ≡ true) × (k ≡ true) × (f ≡ false)
alias_zero true true false h = (refl, refl, refl)
alias_zero true true true h = absurd (omega arith)
alias_zero true false f h = absurd (omega arith)
alias_zero false k f h = absurd (omega arith)

-- one that is added is added to a session
pub alias_taken : (b w : List ℕ) (c : ℕ) → eqb (alias_no b w c) 0 ≡ true → sound b ≡ true
unfolding alias_no
alias_taken b w c e = go (sound b) refl
  where
    go : (x : Bool) → sound b ≡ x → sound b ≡ true
    go true h = h
    go false h =
        let q : alias_no b w c ≡ 99 = rw h in
        let z = eqb-true (alias_no b w c) 0 e in
        absurd (omega (arith, q, z))

-- and leaves aliases that a session may have
pub alias_good : (b w : List ℕ) (c : ℕ) → sound b ≡ true → eqb (alias_no b w c) 0 ≡ true → good_table alias_limit (insert w c (session_of b).rows) ≡ true
unfolding alias_no add_no
alias_good b w c h e =
    let rs = (session_of b).rows in
    let q : alias_no b w c ≡ cond (is_name w) (cond (leb c last_command) (cond (is_full alias_limit rs w) 13 0) 9) 8 = rw h in
    let t = alias_zero (is_name w) (leb c last_command) (is_full alias_limit rs w) (sym q ∙ eqb-true (alias_no b w c) 0 e) in
    insert_good alias_limit w c rs t.0 (leb-true c last_command t.1) (sound_rows b h) t.2

-- it changes nothing but the aliases, and is added exactly where the answer is 0
pub alias_read : (b w : List ℕ) (c : ℕ) → sound b ≡ true →
    ReadAs (alias_bytes b w c) (with_rows (cond (eqb (alias_no b w c) 0) (insert w c (session_of b).rows) (session_of b).rows) (session_of b))
unfolding alias_bytes
alias_read b w c h = go (eqb (alias_no b w c) 0) refl
  where
    rs : List Row
    rs = (session_of b).rows

    go : (x : Bool) → eqb (alias_no b w c) 0 ≡ x → ReadAs (cond x (aliasing (insert w c rs) b) b) (with_rows (cond x (insert w c rs) rs) (session_of b))
    go true e = alias_sound (insert w c rs) b h (alias_good b w c h e)
    go false e = (h, refl)

pub alias_kept : (b w : List ℕ) (c : ℕ) → sound (alias_bytes b w c) ≡ sound b
unfolding alias_bytes alias_no
alias_kept b w c = go (sound b) refl
  where
    go : (x : Bool) → sound b ≡ x → sound (alias_bytes b w c) ≡ x
    go true e = (alias_read b w c e).0
    go false e = rw e e
