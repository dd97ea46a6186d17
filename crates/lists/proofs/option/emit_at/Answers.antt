-- `option::emit_at` meets its contract.
-- Assumes nothing.
use mathlib.Core.Path.{◌∙◌, sym}
use native.Mathlib.Omega.{arith}
use Rattle.scan.specs.RunLaws.{byte_inside}
use Rattle.lists.specs.TextLaws.{bytes_own, bytes_stop}
use borrow.Author.Rules.{rules}
use Rattle.lists.proofs.option.emit_at.Goals as goal

pub returns-then-s-at : goal.returns-then-s-at
returns-then-s-at c = bytes_stop _ _ _ (λ h. absurd (omega arith)) (λ e. absurd (omega (arith, byte_inside c.args.s.now c.args.at 0x5C e (omega arith))))

pub returns-then-is_own : goal.returns-then-is_own
returns-then-is_own c = (bytes_own _ _ _ (search rules) (sym c.is_own.ensures ∙ c.if-is_own.true), omega arith, omega arith)

pub returns : goal.returns
returns c = bytes_stop _ _ _ (λ h. sym c.is_own.ensures ∙ c.if-is_own.false) c.if-b-eq92.false
