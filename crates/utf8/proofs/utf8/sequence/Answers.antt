-- `utf8::sequence` meets its contract.
-- Assumes nothing.
use Rattle.std.proofs.Common.{sym, ◌∙◌, rules}
use Rattle.utf8.specs.Utf8Laws.{sequence_ascii, pair_on, pair_off}
use Rattle.utf8.proofs.utf8.sequence.Goals as goal

pub returns-then-b-lt128 : goal.returns-then-b-lt128
returns-then-b-lt128 c = sequence_ascii _ _ c.requires (search rules)

pub returns-then-follows : goal.returns-then-follows
returns-then-follows c = pair_on _ _ c.requires (sym c.within.ensures ∙ c.if-within.true)
    (sym c.follows.ensures ∙ c.if-follows.true)

pub returns-then-within : goal.returns-then-within
returns-then-within c = pair_off _ _ c.requires (sym c.within.ensures ∙ c.if-within.true)
    (sym c.follows.ensures ∙ c.if-follows.false)
