-- `text::text_size` meets its contract. The invariant: what was counted and what the text from i on stands for make the whole.
-- Assumes nothing.
use mathlib.Core.Path.{◌∙◌, sym, ap}
use native.Mathlib.Omega.{arith}
use lib.ListN.{length}
use Rattle.scan.specs.RunLaws.{run_at_le, byte_inside}
use Rattle.lists.specs.Text.{own}
use Rattle.lists.specs.TextLaws.{bytes_count, bytes_length, bytes_run_end, bytes_stuck}
use Rattle.lists.proofs.text.text_size.Goals as goal

-- a run goes on from the escapes before it; and how many bytes are left behind both

pub overflow_sub-n : goal.overflow_sub-n
overflow_sub-n c = omega (arith, c.own_end-j.ensures, run_at_le (own c.args.quoted) c.args.s.now c.past_escapes-e.result.at)

pub overflow_add-n : goal.overflow_add-n
overflow_add-n c = let a = c.args in
    omega (arith, c.loop-e.invariant, c.past_escapes-e.ensures.passed.count, bytes_count _ _ _ _ c.own_end-j.ensures, bytes_length a.quoted a.s.now a.at)

pub overflow_add-n-in-loop-e : goal.overflow_add-n-in-loop-e
overflow_add-n-in-loop-e c = let a = c.args in
    omega (arith, c.loop-e.invariant, c.past_escapes-e.ensures.passed.count, bytes_count _ _ _ _ c.own_end-j.ensures, bytes_length a.quoted a.s.now a.at)

pub returns-then-byte_at-ne92 : goal.returns-then-byte_at-ne92
returns-then-byte_at-ne92 c = let a = c.args in
    let stop = bytes_run_end a.quoted a.s.now _ _ c.own_end-j.ensures (λ e. c.if-byte_at-ne92.true (c.byte_at.ensures ∙ e)) in
    omega (arith, c.loop-e.invariant, c.past_escapes-e.ensures.passed.count, bytes_count _ _ _ _ c.own_end-j.ensures, ap length stop)

pub returns-then-j-e : goal.returns-then-j-e
returns-then-j-e c = let a = c.args in
    let b = sym c.byte_at.ensures ∙ c.if-byte_at-ne92.false in
    let stuck = bytes_stuck a.quoted a.s.now _ _ c.if-j-e.true c.past_escapes-e.ensures.stuck b in
    omega (arith, c.loop-e.invariant, c.past_escapes-e.ensures.passed.count, bytes_count _ _ _ _ c.own_end-j.ensures, ap length stuck)

pub loop-e-smaller : goal.loop-e-smaller
loop-e-smaller c = let a = c.args in
    let b = byte_inside a.s.now c.own_end-j.result 0x5C (sym c.byte_at.ensures ∙ c.if-byte_at-ne92.false) (omega arith) in
    let e = c.past_escapes-e in
    omega (arith, b, c.if-j-e.false, e.ensures.passed.later, c.own_end-j.ensures, run_at_le (own a.quoted) a.s.now e.result.at)

pub loop-e-preserved : goal.loop-e-preserved
loop-e-preserved c = omega (arith, c.loop-e.invariant, c.past_escapes-e.ensures.passed.count, bytes_count _ _ _ _ c.own_end-j.ensures)
