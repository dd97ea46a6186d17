-- `lent::full` meets its contract.
-- Assumes nothing.
use mathlib.Core.Path.{sym, ◌∙◌, ap}
use Prim.Native.Nat.{ℕ}
use lib.Dec.{leb}
use Rattle.limits.specs.Limits.{alias_limit}
use Rattle.fields.specs.Field.{then_field, formed_as}
use Rattle.placing.specs.Change.{is_full}
use Rattle.layout.specs.Layout.{added_field, session_field, session_of}
use Rattle.layout.specs.SoundLaws.{sound_count}
use Rattle.session.proofs.lent.full.Goals as goal

pub returns-in-Some : goal.returns-in-Some
unfolding is_full session_of session_field formed_as then_field added_field
returns-in-Some c = rw (sym c.find.ensures ∙ c.in-Some.is)

pub returns-in-None : goal.returns-in-None
unfolding is_full session_of session_field formed_as then_field added_field
returns-in-None c = rw (sym c.find.ensures ∙ c.in-None.is) (ap (λ (n : ℕ). leb alias_limit n) (c.byte_at.ensures ∙ sym (sound_count c.args.b.now c.requires)))
