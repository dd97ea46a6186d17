-- `text::put_texts` meets its contract. The invariant: the texts before the one at `from` are written, and what is left is that of the texts from there on.
-- Assumes nothing.
use Prim.Native.Nat.{◌-◌}
use Rattle.layout.specs.Layout.{session_of, table_of}
use Rattle.tokens.specs.ThroughLaws.{Telling}
use Rattle.tokens.proofs.text.put_texts.Given as goal

abbrev pub invariant-loop-again : goal.invariant-loop-again
invariant-loop-again l = Telling (table_of (session_of l.words)) l.line l.e l.initial.store l.store l.at l.from l.lead l.again

abbrev pub decreases-loop-again : goal.decreases-loop-again
decreases-loop-again l = l.e - l.from
