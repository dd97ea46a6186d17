-- `decimal::is_digit` meets its contract.
-- Assumes nothing.
use Rattle.scan.specs.Bytes.{is_digit}
use Rattle.scan.proofs.decimal.is_digit.Goals as goal

pub returns : goal.returns
unfolding is_digit
returns c = c.within.ensures
