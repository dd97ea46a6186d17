-- `lent::fresh_in` meets its contract.
-- Assumes nothing.
use mathlib.Core.Path.{sym}
use borrow.Author.Tests.{eq-eqb, ne_eqb}
use Rattle.session.specs.Lent.{fresh_no, fresh_bytes}
use Rattle.session.proofs.lent.fresh_in.Goals as goal

pub returns-then-b-ne-SESSION : goal.returns-then-b-ne-SESSION
unfolding fresh_no fresh_bytes
returns-then-b-ne-SESSION c = record { answer = sym (rw (ne_eqb _ _ c.if-b-ne-SESSION.true)); written = rw (ne_eqb _ _ c.if-b-ne-SESSION.true) }

pub returns : goal.returns
unfolding fresh_no fresh_bytes
returns c = let size = eq-eqb _ _ c.if-b-ne-SESSION.false in record { answer = rw size; written = rw size c.clear.ensures }
