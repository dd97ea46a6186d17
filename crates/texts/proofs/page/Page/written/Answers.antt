-- `texts::page::Page::written` meets its contract.
-- Assumes nothing.
use Rattle.std.proofs.Common.{ap}
use Rattle.texts.specs.Written.{up_to}
use Rattle.texts.proofs.page.Page.written.Goals as goal

pub returns : goal.returns
unfolding up_to
returns c = ap (λ w. w.bytes) c.self.view_is
