-- `bytes::Word::has` is the rule.
-- Assumes nothing.
use Rattle.std.proofs.Common.{arith}
use Rattle.std.proofs.lemmas.Grind.{common_steps}
use Rattle.tables.specs.AllLaws.{word_is}
use Rattle.tables.proofs.bytes.WordClass.has.Goals as goal

pub returns-then-b-eq64 : goal.returns-then-b-eq64
returns-then-b-eq64 c = rw (← word_is c.args.b) (grind (arith, common_steps))

pub returns-else-b-eq64 : goal.returns-else-b-eq64
returns-else-b-eq64 c = rw (← word_is c.args.b) (grind (arith, common_steps))
