-- `block::characters_end` meets its contract.
-- Assumes nothing.
use Rattle.std.proofs.Common.{arith}
use Rattle.utf8.specs.Utf8Blocks.{place_new}
use Rattle.utf8.proofs.block.characters_end.Goals as goal

pub returns : goal.returns
returns c = c.blocks_end.ensures _ (place_new _ _ _ (omega arith) (omega arith) (omega arith))
