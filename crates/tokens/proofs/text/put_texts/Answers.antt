-- `text::put_texts` meets its contract. The invariant: the texts before the one at `from` are written, and what is left is that of the texts from there on.
-- Assumes nothing.
use mathlib.Core.Path.{refl}
use native.Mathlib.Omega.{arith}
use Rattle.scan.specs.Scan.{part_of}
use Rattle.layout.specs.Layout.{session_of, table_of}
use Rattle.scanner.specs.LeadLaws.{lead_inside}
use Rattle.tokens.specs.ThroughLaws.{text_length, telling_inside, telling_room, telling_past, telling_on, telling_last, telling_end}
use Rattle.tokens.proofs.text.put_texts.Goals as goal

pub put_tokens-at-requires : goal.put_tokens-at-requires
put_tokens-at-requires c = let a = c.args in
    let t = c.loop-again.invariant in
    let f = c.loop-again.from in
    let inside = c.requires.e_in_bounds in
    let size = text_length (table_of (session_of a.words.now)) a.line.now a.e f inside in
    let room = telling_room (table_of (session_of a.words.now)) a.line.now a.e inside t c.loop-again-test.true c.requires.room in
    rw (c.part-in-loop-again.ensures, t.led)
    record {
      lead_value = refl;
      to_in_bounds = lead_inside (part_of a.line.now f a.e);
      o_len_bound = omega (arith, size, t.within, inside, c.requires.line_len_bound);
      room = room;
    }

pub overflow_add-from : goal.overflow_add-from
overflow_add-from c = let a = c.args in
    let t = c.loop-again.invariant in
    rw t.led (omega (arith, telling_inside (table_of (session_of a.words.now)) a.line.now a.e c.requires.e_in_bounds t, c.requires.e_in_bounds, c.requires.line_len_bound))

pub loop-again-smaller : goal.loop-again-smaller
loop-again-smaller c = let a = c.args in
    let t = c.loop-again.invariant in
    let inside = c.requires.e_in_bounds in
    rw t.led
    (omega (arith, telling_inside (table_of (session_of a.words.now)) a.line.now a.e inside t, telling_past (table_of (session_of a.words.now)) a.line.now a.e inside t c.loop-again-test.true))

pub loop-again-preserved : goal.loop-again-preserved
loop-again-preserved c = let a = c.args in
    let t = c.loop-again.invariant in
    let l = rw t.led at (rw c.part-in-loop-again-2.ensures at c.lead_of-lead-in-loop-again.ensures) in
    let q = rw t.led at (rw c.part-in-loop-again-3.ensures at c.is_prefixed-again-in-loop-again.ensures) in
    let p = rw t.led at (rw c.part-in-loop-again.ensures at c.put_tokens-at.ensures) in
    rw t.led (telling_on (table_of (session_of a.words.now)) a.line.now a.e c.requires.e_in_bounds t c.loop-again-test.true _ _ p l q)

pub put_tokens-requires : goal.put_tokens-requires
put_tokens-requires c = let a = c.args in
    let t = c.loop-again.invariant in
    let f = c.loop-again.from in
    let inside = c.requires.e_in_bounds in
    let size = text_length (table_of (session_of a.words.now)) a.line.now a.e f inside in
    let room = telling_last (table_of (session_of a.words.now)) a.line.now a.e inside t c.loop-again-test.false c.requires.room in
    rw c.part-3.ensures
    record {
      lead_value = t.led;
      to_in_bounds = omega (arith, size);
      o_len_bound = omega (arith, size, t.within, inside, c.requires.line_len_bound);
      room = room;
    }

pub returns : goal.returns
returns c = let a = c.args in
    telling_end (table_of (session_of a.words.now)) a.line.now a.e c.requires.e_in_bounds c.loop-again.invariant c.loop-again-test.false (rw c.part-3.ensures at c.put_tokens.ensures)
