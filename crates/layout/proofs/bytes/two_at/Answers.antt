-- `bytes::two_at` meets its contract.
-- Assumes nothing.
use native.Mathlib.Omega.{arith}
use Rattle.fields.specs.Field.{two_at}
use Rattle.layout.proofs.bytes.two_at.Goals as goal

pub returns : goal.returns
unfolding two_at
returns c = record { value = rw (c.byte_at-2.ensures, c.byte_at.ensures); bound = omega arith }
