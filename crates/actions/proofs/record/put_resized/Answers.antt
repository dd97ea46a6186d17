-- `record::put_resized` meets its contract.
-- Assumes nothing.
use Prim.Native.Nat.{◌+◌}
use Rattle.actions.specs.Within.{within_then}
use Rattle.actions.proofs.record.put_resized.Goals as goal

pub returns : goal.returns
returns c = within_then 1 (14 + (1 + 11)) c.put_small-i.ensures
    (within_then 14 (1 + 11) c.put_focus-j.ensures (within_then 1 11 c.put_case-k.ensures c.put_change.ensures))
