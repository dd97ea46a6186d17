-- `decimal::number` meets its contract.
-- Assumes nothing.
use borrow.Author.Tests.{eq-eqb, ne_eqb}
use Rattle.scan.proofs.decimal.number.Goals as goal

pub returns-then-i-at : goal.returns-then-i-at
returns-then-i-at c = simp (eq-eqb _ _ c.if-i-at.true)

pub returns-else-i-at : goal.returns-else-i-at
returns-else-i-at c = simp (ne_eqb _ _ c.if-i-at.false)
