-- `part::part` meets its contract.
-- Assumes nothing.
use mathlib.Core.Path.{sym, ◌∙◌}
use lib.ListN.{length}
use Rattle.scan.specs.PartLaws.{part_none, part_ends, part_past}
use borrow.Author.Rules.{rules}
use Rattle.scan.proofs.part.part.Goals as goal

pub returns-then-e-n : goal.returns-then-e-n
returns-then-e-n c = let a = c.args in
    part_none a.s.now a.e a.e (search rules) ∙ sym (part_none a.s.now a.a a.e (search rules))

pub returns-then-a-n : goal.returns-then-a-n
returns-then-a-n c = let a = c.args in
    part_ends a.s.now a.a _ a.e (search rules) (search rules)

pub returns : goal.returns
returns c = let a = c.args in
    part_past a.s.now (length a.s.now) a.a (length a.s.now) a.e (search rules) (search rules)
