-- `call::tokens_in` meets its contract.
-- Assumes nothing.
use mathlib.Core.Path.{◌≡◌, sym, ◌∙◌}
use Prim.Native.Nat.{◌/◌}
use native.Mathlib.Omega.{arith}
use lib.ListN.{length}
use borrow.Author.Tests.{le-leb, lt-leb}
use Rattle.layout.specs.Layout.{session_of, table_of}
use Rattle.run.specs.ReplyLaws.{front}
use Rattle.tokens.specs.Through.{token_size, tokens_on}
use Rattle.tokens.specs.ThroughLaws.{bytes_length, line_room_lem, tokens_99, tokens_long, tokens_short, tokens_good}
use Rattle.tokens.proofs.call.tokens_in.Goals as goal

pub returns-then-not-sound : goal.returns-then-not-sound
returns-then-not-sound c = let a = c.args in
    let x = tokens_99 a.b.now a.line.now a.store.now (sym c.sound.ensures ∙ c.if-not-sound.true) in
    record { refusal = x.0; count = x.1; store = x.2 }

pub returns-then-line-gt-LINE : goal.returns-then-line-gt-LINE
returns-then-line-gt-LINE c = let a = c.args in
    let taken = sym c.sound.ensures ∙ c.if-not-sound.false in
    let x = tokens_long a.b.now a.line.now a.store.now taken (lt-leb _ _ c.if-line-gt-LINE.true) in
    record { refusal = x.0; count = x.1; store = x.2 }

pub returns-then-store-line : goal.returns-then-store-line
returns-then-store-line c = let a = c.args in
    let taken = sym c.sound.ensures ∙ c.if-not-sound.false in
    let x = tokens_short a.b.now a.line.now a.store.now taken (le-leb _ _ c.if-line-gt-LINE.false) (lt-leb _ _ c.if-store-line.true) in
    record { refusal = x.0; count = x.1; store = x.2 }

pub put_line-n-requires : goal.put_line-n-requires
put_line-n-requires c = let a = c.args in
    rw c.words_of.ensures record { line_len_bound = c.if-line-gt-LINE.false; room = line_room_lem _ a.line.now a.store.now c.if-store-line.false }

pub returns : goal.returns
unfolding tokens_on
returns c = let a = c.args in
    let ts = tokens_on a.b.now a.line.now in
    let taken = sym c.sound.ensures ∙ c.if-not-sound.false in
    let x = tokens_good a.b.now a.line.now a.store.now taken (le-leb _ _ c.if-line-gt-LINE.false) (le-leb _ _ c.if-store-line.false) in
    let e : table_of (session_of c.words_of.result.now) ≡ table_of (session_of a.b.now) = c.words_of.ensures in
    let p = rw e at c.put_line-n.ensures in
    let room = line_room_lem (table_of (session_of a.b.now)) a.line.now a.store.now c.if-store-line.false in
    let count : c.put_line-n.result / token_size ≡ length ts = omega (arith, p.place, bytes_length ts) in
    record { refusal = x.0; count = count ∙ x.1; store = front p (omega (arith, p.place, room.fits)) ∙ x.2 }
