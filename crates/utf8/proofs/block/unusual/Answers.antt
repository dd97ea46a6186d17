-- `block::unusual` meets its contract.
-- Assumes nothing.
use Rattle.std.proofs.Common.{arith}
use Rattle.utf8.specs.Utf8Blocks.{usual_by}
use Rattle.utf8.proofs.block.unusual.Goals as goal

pub returns : goal.returns
returns c = λ h. usual_by _ (omega (arith, c.saturating_sub.ensures, h))
