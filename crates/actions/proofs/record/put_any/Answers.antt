-- `record::put_any` meets its contract.
-- Assumes nothing.
use native.Mathlib.Omega.{arith}
use Rattle.store.specs.SevensLaws.{encode_ten}
use Rattle.actions.specs.Within.{within_any}
use borrow.Author.Rules.{rules}
use Rattle.actions.proofs.record.put_any.Goals as goal

pub put_number-requires : goal.put_number-requires
put_number-requires c = record { fits = omega (arith, encode_ten c.args.n (search rules), c.requires) }

pub returns : goal.returns
returns c = within_any _ (search rules) c.put_number.ensures
