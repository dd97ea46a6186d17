-- `test::PlainClass::has` meets its contract.
-- Assumes nothing.
use Rattle.blocks.specs.TestLaws.{plain_both}
use Rattle.blocks.proofs.test.PlainClass.has.Goals as goal

pub returns : goal.returns
returns c = rw (c.has.ensures, c.has-2.ensures) (plain_both _)
