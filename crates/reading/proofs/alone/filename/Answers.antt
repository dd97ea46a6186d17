-- `alone::filename` meets its contract.
-- Assumes nothing.
use mathlib.Core.Path.{◌≡◌, ◌∙◌, sym}
use native.Mathlib.Omega.{arith}
use lib.ListN.{length}
use Rattle.lists.specs.Lists.{filename_of, text_at}
use Rattle.reading.specs.Told.{filename_told}
use Rattle.reading.specs.Alone.{filename_seen, filename_bytes}
use Rattle.reading.proofs.alone.filename.Goals as goal

pub returns-then-lone : goal.returns-then-lone
unfolding filename_told filename_seen filename_bytes filename_of
returns-then-lone c = record { kind = rw (sym c.lone.ensures ∙ c.if-lone.true); written = rw (sym c.lone.ensures ∙ c.if-lone.true) }

pub returns-then-lone-2 : goal.returns-then-lone-2
unfolding filename_told filename_seen filename_bytes filename_of
returns-then-lone-2 c = let no-hash = sym c.lone.ensures ∙ c.if-lone.false in
    let percent = sym c.lone-2.ensures ∙ c.if-lone-2.true in
    record { kind = rw (no-hash, percent); written = rw (no-hash, percent) }

pub returns : goal.returns
unfolding filename_told filename_seen filename_bytes filename_of
returns c = let a = c.args in
    let p = c.copy_item.ensures in
    let n : c.copy_item.result ≡ length (text_at a.s.now a.x.start) = omega (arith, p.place) in
    let no-hash = sym c.lone.ensures ∙ c.if-lone.false in
    let no-percent = sym c.lone-2.ensures ∙ c.if-lone-2.false in
    record { kind = rw (no-hash, no-percent, n); written = rw (no-hash, no-percent) p.store }
