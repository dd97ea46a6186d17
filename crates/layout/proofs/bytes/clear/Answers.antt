-- `bytes::clear` meets its contract.
-- Assumes nothing.
use lib.ListN.{set}
use mathlib.Core.Path.{sym, ◌∙◌, ap}
use Rattle.layout.specs.Layout.{added_place}
use Rattle.layout.specs.SoundLaws.{fresh_is}
use Rattle.layout.proofs.bytes.clear.Goals as goal

pub returns : goal.returns
returns c = ap (λ s. set s added_place 0) c.put_two.ensures.store ∙ sym (fresh_is c.args.b.now)
