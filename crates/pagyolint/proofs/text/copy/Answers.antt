-- `text::copy` meets its contract.
-- Assumes nothing.
use mathlib.Core.Path.{◌≡◌, sym}
use native.Mathlib.Omega.{arith}
use lib.ListN.{length}
use borrow.Author.Tests.{le-leb, lt-leb}
use Rattle.run.specs.ReplyLaws.{front}
use Rattle.pagyolint.specs.Texts.{copy_no, copy_count, copy_store}
use Rattle.pagyolint.proofs.text.copy.Goals as goal

pub returns-then-store-text : goal.returns-then-store-text
unfolding copy_no copy_count copy_store
returns-then-store-text c = let short = lt-leb _ _ c.if-store-text.true in
    record { refusal = sym (rw short); count = sym (rw short); store = sym (rw short) }

pub returns : goal.returns
unfolding copy_no copy_count copy_store
returns c = let a = c.args in
    let fits = le-leb _ _ c.if-store-text.false in
    let p = c.put_bytes.ensures in
    let count : c.put_bytes.result ≡ length a.text.now = omega (arith, p.place) in
    record { refusal = sym (rw fits); count = rw fits count; store = rw fits (front p (omega (arith, p.place, c.if-store-text.false))) }
