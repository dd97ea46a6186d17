-- `bytes::remember` meets its contract.
-- Assumes nothing.
use mathlib.Core.Path.{◌∙◌, ap}
use lib.Seq.{sets}
use Rattle.fields.specs.Field.{then_field, guarded, formed_as, two_field, bytes_field}
use Rattle.layout.specs.Layout.{line_place, line_field, remembering}
use Rattle.layout.proofs.bytes.remember.Goals as goal

pub returns : goal.returns
unfolding remembering line_field formed_as guarded then_field two_field bytes_field
returns c = c.put_bytes.ensures.store ∙ ap (λ s. sets s line_place c.args.line.now)
    c.put_two.ensures.store
