-- `bytes::remembered` meets its contract.
-- Assumes nothing.
use mathlib.Core.Path.{sym, ◌∙◌, ap}
use Prim.Native.Nat.{ℕ, ◌+◌}
use Rattle.scan.specs.Scan.{part_of}
use Rattle.layout.specs.Layout.{line_place}
use Rattle.layout.specs.SoundLaws.{sound_line}
use Rattle.layout.proofs.bytes.remembered.Goals as goal

pub returns : goal.returns
returns c = let b = c.args.b.now in
    c.part.ensures ∙ ap (λ (n : ℕ). part_of b line_place (line_place + n)) c.two_at.ensures.value ∙ sym (sound_line b c.requires)
