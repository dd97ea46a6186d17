-- `decimal::too_large` meets its contract.
-- Assumes nothing.
use mathlib.Core.Bool.{false≢true}
use native.Mathlib.Omega.{arith}
use borrow.Author.Tests.{ltb-true, ltb-false}
use Rattle.scan.proofs.decimal.too_large.Goals as goal

pub returns-then-n-le-SMALL : goal.returns-then-n-le-SMALL
returns-then-n-le-SMALL c = (λ h. absurd (false≢true h), λ h. omega arith)

pub returns : goal.returns
returns c = (λ h. omega (arith, ltb-true), λ h. omega (arith, ltb-false))
