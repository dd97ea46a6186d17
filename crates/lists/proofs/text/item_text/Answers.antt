-- `text::item_text` meets its contract.
-- Assumes nothing.
use mathlib.Core.Path.{refl}
use borrow.Author.Tests.{eq-eqb, ne_eqb}
use Rattle.lists.specs.Lists.{text_at}
use Rattle.lists.proofs.text.item_text.Goals as goal

pub returns-then-byte_at-eq34 : goal.returns-then-byte_at-eq34
unfolding text_at
returns-then-byte_at-eq34 c = record { bytes = rw (← c.byte_at.ensures, eq-eqb _ _ c.if-byte_at-eq34.true); place = (rw (← c.byte_at.ensures, eq-eqb _ _ c.if-byte_at-eq34.true), refl) }

pub returns : goal.returns
unfolding text_at
returns c = record { bytes = rw (← c.byte_at.ensures, ne_eqb _ _ c.if-byte_at-eq34.false); place = (rw (← c.byte_at.ensures, ne_eqb _ _ c.if-byte_at-eq34.false), refl) }
