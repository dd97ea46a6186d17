-- `insert::insert` meets its contract.
-- Assumes nothing.
use mathlib.Core.Path.{sym, ◌∙◌}
use Rattle.placing.specs.InsertLaws.{untaken_refused}
use Rattle.placing.proofs.insert.insert.Goals as goal

pub returns-then-not-good : goal.returns-then-not-good
returns-then-not-good c = let a = c.args in
    let r = untaken_refused a.at a.most a.w.now a.command a.b.now (sym c.good.ensures ∙ c.if-not-good.true) in
    record { answer = r.0; bytes = r.1 }
