-- The order in which aliases are added leaves no trace: sessions in which every word leads to the same, with the same line, are the same
-- session (`same_session`). So bytes that are taken, with the same lookups and the same line, are the same wherever they are used (`same_used`).
-- Assumes nothing.
use Rattle.std.specs.Prelude.{◌≡◌, true, List, [], ℕ, leb, length}
use Rattle.std.proofs.Common.{ap, ◌∙◌}
use Rattle.limits.specs.Limits.{alias_limit}
use Rattle.words.specs.Words.{lookup_in}
use Rattle.fields.specs.BoolLaws.{and_both}
use Rattle.fields.specs.Field.{Bytes}
use Rattle.tables.specs.Table.{good_rows, good_table}
use Rattle.placing.specs.KeepLaws.{same_rows}
use Rattle.layout.specs.Layout.{Session, well_formed, with_line, with_rows, session_of, sound}
use Rattle.layout.specs.SoundLaws.{formed_rows, sound_written}
use Rattle.kept.specs.Free.{Alike, read_alike}

-- the aliases of a session are rows in order
in_order_lem : (s : Session) → well_formed s ≡ true → good_rows [] s.rows ≡ true
unfolding good_table
in_order_lem s f = (and_both (good_rows [] s.rows) (leb (length s.rows) alias_limit) (formed_rows s f)).0

-- sessions with the same aliases and the same line are the same, whatever was added first
pub same_session : (s u : Session) → well_formed s ≡ true → well_formed u ≡ true → ((w : List ℕ) → lookup_in s.rows w ≡ lookup_in u.rows w) → s.line ≡ u.line → s ≡ u
same_session s u f g h l =
    ap (λ rs. with_rows rs s) (same_rows [] s.rows u.rows (in_order_lem s f) (in_order_lem u g) h) ∙ ap (λ x. with_line x (with_rows u.rows s)) l

-- and their used bytes are the same
pub same_used : (a b : List ℕ) → Bytes a → Bytes b → sound a ≡ true → sound b ≡ true → ((w : List ℕ) → lookup_in (session_of a).rows w ≡ lookup_in (session_of b).rows w) →
    (session_of a).line ≡ (session_of b).line → Alike a b
same_used a b k m g h w l = read_alike a b k m g h (same_session (session_of a) (session_of b) (sound_written a g k).0 (sound_written b h m).0 w l)
