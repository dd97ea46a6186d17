-- `text::put_line` meets its contract.
-- Assumes nothing.
use native.Mathlib.Omega.{arith}
use Rattle.store.specs.Splice.{put_then, room_first, room_next}
use Rattle.layout.specs.Layout.{session_of, table_of}
use Rattle.tokens.specs.ThroughLaws.{texts_inside, line_bytes_lem}
use Rattle.tokens.proofs.text.put_line.Goals as goal

pub put_texts-at-requires : goal.put_texts-at-requires
put_texts-at-requires c = let a = c.args in
    let table = table_of (session_of a.words.now) in
    rw c.texts_end-e.ensures
    record {
      line_len_bound = c.requires.line_len_bound;
      e_in_bounds = texts_inside table a.line.now;
      room = room_first _ _ (rw (line_bytes_lem table a.line.now) at c.requires.room);
    }

pub put_tokens-requires : goal.put_tokens-requires
put_tokens-requires c = let a = c.args in
    let table = table_of (session_of a.words.now) in
    let p = rw c.texts_end-e.ensures at c.put_texts-at.ensures in
    rw c.texts_end-e.ensures
    record {
      lead_value = c.lead_of-lead.ensures;
      to_in_bounds = omega arith;
      o_len_bound = omega (arith, c.requires.line_len_bound);
      room = room_next p (rw (line_bytes_lem table a.line.now) at c.requires.room);
    }

pub returns : goal.returns
returns c = let a = c.args in
    let table = table_of (session_of a.words.now) in
    rw (line_bytes_lem table a.line.now) (rw c.texts_end-e.ensures at (put_then c.put_texts-at.ensures c.put_tokens.ensures))
