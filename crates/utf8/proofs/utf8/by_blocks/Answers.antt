-- `utf8::by_blocks` meets its contract. The invariant: the text is judged from i as from its start.
-- Assumes nothing.
use Rattle.std.proofs.Common.{sym, refl, ◌∙◌, rules}
use Rattle.utf8.specs.Utf8.{is_utf8}
use Rattle.utf8.specs.Utf8Laws.{utf8_end}
use Rattle.utf8.proofs.utf8.by_blocks.Goals as goal

pub loop-i-init : goal.loop-i-init
unfolding is_utf8
loop-i-init c = (refl, c.requires)

pub returns : goal.returns
returns c = sym (c.loop-i.invariant.0 ∙ utf8_end _ _ _ (search rules))
