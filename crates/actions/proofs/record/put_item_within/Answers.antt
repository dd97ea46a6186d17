-- `record::put_item_within` meets its contract.
-- Assumes nothing.
use native.Mathlib.Omega.{arith}
use lib.ListN.{length}
use Rattle.lists.specs.ListLaws.{text_length}
use Rattle.actions.specs.Within.{named_room, within_named}
use Rattle.actions.proofs.record.put_item_within.Goals as goal

pub put_item-requires : goal.put_item-requires
put_item-requires c = let a = c.args in
    (named_room _ (length a.s.now) (text_length a.s.now a.start) (omega arith) c.requires)

pub returns : goal.returns
returns c = let a = c.args in
    within_named _ (length a.s.now) (text_length a.s.now a.start) (omega arith) c.put_item.ensures
