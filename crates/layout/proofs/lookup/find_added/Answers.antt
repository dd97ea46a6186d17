-- `lookup::find_added` meets its contract.
-- Assumes nothing.
use mathlib.Core.Path.{sym, ap}
use Rattle.words.specs.Words.{lookup_in}
use Rattle.fields.specs.Field.{then_field, formed_as}
use Rattle.layout.specs.Layout.{added_field, session_field, session_of}
use Rattle.layout.specs.SoundLaws.{rows_nowhere}
use Rattle.layout.proofs.lookup.find_added.Goals as goal

pub returns-then-b-eq0 : goal.returns-then-b-eq0
unfolding lookup_in
returns-then-b-eq0 c = let a = c.args in
    sym (ap (λ rs. lookup_in rs a.w.now) (rows_nowhere a.b.now c.if-b-eq0.true))

pub returns : goal.returns
unfolding session_of session_field formed_as then_field added_field
returns c = c.find.ensures
