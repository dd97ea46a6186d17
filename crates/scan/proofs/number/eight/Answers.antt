-- `number::eight` meets its contract.
-- Assumes nothing.
use Rattle.std.proofs.Common.{◌∙◌, ap}
use Rattle.std.specs.Int.{w64, from_be_bytes}
use Rattle.scan.specs.NumberLaws.{number_eight}
use Rattle.scan.proofs.number.eight.Goals as goal

pub returns : goal.returns
returns c = c.from_be_bytes.ensures ∙ ap (from_be_bytes w64) c.bytes_at.ensures ∙ number_eight c.args.s.now c.args.at
