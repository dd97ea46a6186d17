-- `store::put_name` meets its contract: a number and then the bytes.
-- Assumes nothing.
use Rattle.store.specs.Sevens.{named}
use Rattle.store.specs.Splice.{put_then, room_first, room_next}
use Rattle.store.proofs.put_name.Goals as goal

pub put_number-i-requires : goal.put_number-i-requires
unfolding named
put_number-i-requires c = room_first _ _ c.requires

pub put_bytes-requires : goal.put_bytes-requires
unfolding named
put_bytes-requires c = room_next c.put_number-i.ensures c.requires

pub returns : goal.returns
unfolding named
returns c = put_then c.put_number-i.ensures c.put_bytes.ensures
