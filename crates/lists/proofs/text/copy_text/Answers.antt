-- `text::copy_text` meets its contract. The invariant: what is still to be written, from n on, makes the store asked for.
-- Assumes nothing.
use mathlib.Core.Path.{◌∙◌, sym}
use native.Mathlib.Omega.{arith}
use Rattle.scan.specs.RunLaws.{run_at_le, byte_inside}
use Rattle.store.specs.Splice.{writing_room, writing_put, writing_then, writing_end}
use Rattle.lists.specs.Text.{own}
use Rattle.lists.specs.TextLaws.{bytes_run_to, bytes_run_end, bytes_stuck}
use Rattle.lists.proofs.text.copy_text.Goals as goal

pub put_bytes-m-requires : goal.put_bytes-m-requires
put_bytes-m-requires c = rw c.part.ensures (writing_room _ _ c.requires (bytes_run_to _ _ _ _ c.own_end-j.ensures) (writing_then c.put_escapes-e.ensures.writes c.loop-e.invariant))

pub returns-then-byte_at-ne92 : goal.returns-then-byte_at-ne92
returns-then-byte_at-ne92 c = writing_end (bytes_run_end _ _ _ _ c.own_end-j.ensures (λ e. c.if-byte_at-ne92.true (c.byte_at.ensures ∙ e))) (writing_put _ (rw c.part.ensures at c.put_bytes-m.ensures) (bytes_run_to _ _ _ _ c.own_end-j.ensures) (writing_then c.put_escapes-e.ensures.writes c.loop-e.invariant))

pub returns-then-j-e : goal.returns-then-j-e
returns-then-j-e c = let b = sym c.byte_at.ensures ∙ c.if-byte_at-ne92.false in
    let a = c.args in
    writing_end (bytes_stuck a.quoted a.s.now _ _ c.if-j-e.true c.put_escapes-e.ensures.stuck b) (writing_put _ (rw c.part.ensures at c.put_bytes-m.ensures) (bytes_run_to _ _ _ _ c.own_end-j.ensures) (writing_then c.put_escapes-e.ensures.writes c.loop-e.invariant))

pub loop-e-smaller : goal.loop-e-smaller
loop-e-smaller c = let a = c.args in
    let b = byte_inside a.s.now c.own_end-j.result 0x5C (sym c.byte_at.ensures ∙ c.if-byte_at-ne92.false) (omega arith) in
    let e = c.put_escapes-e in
    omega (arith, b, c.if-j-e.false, e.ensures.later, c.own_end-j.ensures, run_at_le (own a.quoted) a.s.now e.result.at)

pub loop-e-preserved : goal.loop-e-preserved
loop-e-preserved c = writing_put _ (rw c.part.ensures at c.put_bytes-m.ensures) (bytes_run_to _ _ _ _ c.own_end-j.ensures) (writing_then c.put_escapes-e.ensures.writes c.loop-e.invariant)
