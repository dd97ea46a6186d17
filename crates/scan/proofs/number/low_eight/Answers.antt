-- `number::low_eight` meets its contract.
-- Assumes nothing.
use Rattle.std.proofs.Common.{◌∙◌, ap}
use Rattle.std.specs.Int.{w64, from_le_bytes}
use Rattle.scan.specs.NumberLaws.{low_eight}
use Rattle.scan.proofs.number.low_eight.Goals as goal

pub returns : goal.returns
returns c = c.from_le_bytes.ensures ∙ ap (from_le_bytes w64) c.bytes_at.ensures ∙ low_eight c.args.s.now c.args.at c.requires
