-- `run::run` meets its contract. The invariant: the line answers what the text from `from` up to `to` answers, in the context x, after n readings; the
-- store is as it was.
-- Assumes nothing.
use mathlib.Core.Path.{◌≡◌}
use Prim.Native.Nat.{◌-◌}
use Rattle.layout.specs.Layout.{session_of, table_of}
use Rattle.run.specs.Held.{Held}
use Rattle.run.proofs.run.run.Given as goal

abbrev pub invariant-loop-store : goal.invariant-loop-store
invariant-loop-store l = (l.store ≡ l.initial.store) × Held (table_of (session_of l.session)) l.line l.x l.n l.from l.to l.stop

abbrev pub decreases-loop-store : goal.decreases-loop-store
decreases-loop-store l = l.to - l.from
