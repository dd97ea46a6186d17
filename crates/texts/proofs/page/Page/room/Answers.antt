-- `texts::page::Page::room` meets its contract.
-- Assumes nothing.
use Rattle.std.proofs.Common.{refl}
use Rattle.texts.specs.Written.{up_to}
use Rattle.texts.proofs.page.Page.room.Goals as goal

pub returns : goal.returns
unfolding up_to
returns c = rw (← c.self.view_is) refl
