-- `decimal::past_zeros` meets its contract.
-- Assumes nothing.
use Rattle.scan.specs.DigitsLaws.{zeros_none, zeros_run}
use Rattle.scan.proofs.decimal.past_zeros.Goals as goal

pub returns-then-byte_at-ne48 : goal.returns-then-byte_at-ne48
returns-then-byte_at-ne48 c = zeros_none _ _

pub returns : goal.returns
returns c = zeros_run _ _ _ c.blocks_end.ensures.later c.blocks_end.ensures.run
