-- `record::put_small` meets its contract.
-- Assumes nothing.
use Rattle.actions.specs.Within.{within_one}
use Rattle.actions.proofs.record.put_small.Goals as goal

pub returns : goal.returns
returns c = within_one _ _ _ c.requires.n_bound
