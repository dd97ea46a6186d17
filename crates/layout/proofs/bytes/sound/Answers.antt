-- `bytes::sound` meets its contract.
-- Assumes nothing.
use mathlib.Core.Path.{sym, ◌∙◌, ap}
use native.Mathlib.Omega.{arith}
use Prim.Native.Nat.{ℕ, ◌+◌, ◌≤◌}
use Rattle.scan.specs.Scan.{part_of}
use Rattle.utf8.specs.Utf8.{is_utf8}
use Rattle.fields.specs.Field.{two_at}
use Rattle.limits.specs.Limits.{line_limit}
use Rattle.layout.specs.Layout.{line_count, line_place}
use Rattle.layout.specs.SoundLaws.{sound_other, sound_long, sound_text, sound_added}
use Rattle.layout.proofs.bytes.sound.Goals as goal

pub returns-then-b-ne-SESSION : goal.returns-then-b-ne-SESSION
returns-then-b-ne-SESSION c = sym (sound_other c.args.b.now c.if-b-ne-SESSION.true)

pub returns-then-n-gt-LINE : goal.returns-then-n-gt-LINE
returns-then-n-gt-LINE c = let b = c.args.b.now in
    sym (sound_long b c.if-b-ne-SESSION.false (omega (arith, c.two_at-n.ensures.value)))

pub returns-then-not-is_utf8 : goal.returns-then-not-is_utf8
returns-then-not-is_utf8 c = let b = c.args.b.now in
    let e = c.two_at-n.ensures.value in
    let h : two_at b line_count ≤ line_limit = omega (arith, e, c.if-n-gt-LINE.false) in
    let t = ap is_utf8 (c.part.ensures ∙ ap (λ (n : ℕ). part_of b line_place (line_place + n)) e) in
    sym (sound_text b c.if-b-ne-SESSION.false h (sym (c.is_utf8.ensures ∙ t) ∙ c.if-not-is_utf8.true))

pub returns : goal.returns
returns c = let b = c.args.b.now in
    let e = c.two_at-n.ensures.value in
    let h : two_at b line_count ≤ line_limit = omega (arith, e, c.if-n-gt-LINE.false) in
    let t = ap is_utf8 (c.part.ensures ∙ ap (λ (n : ℕ). part_of b line_place (line_place + n)) e) in
    c.good.ensures ∙ sym (sound_added b c.if-b-ne-SESSION.false h (sym (c.is_utf8.ensures ∙ t) ∙ c.if-not-is_utf8.false))
