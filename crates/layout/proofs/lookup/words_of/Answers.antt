-- `lookup::words_of` meets its contract.
-- Assumes nothing.
use mathlib.Core.Path.{sym, ◌∙◌}
use Rattle.layout.specs.SoundLaws.{words_none}
use Rattle.layout.proofs.lookup.words_of.Goals as goal

pub returns-then-byte_at-eq0 : goal.returns-then-byte_at-eq0
returns-then-byte_at-eq0 c = words_none c.args.b.now _ (sym c.byte_at.ensures ∙ c.if-byte_at-eq0.true) c.part.ensures
