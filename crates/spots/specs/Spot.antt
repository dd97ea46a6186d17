-- Places in a line. Document 01 has none of them: they are for a mark under a refused line.
-- Assumes nothing.
use Rattle.std.specs.Prelude.{ℕ, ◌<◌, ◌≤◌, Option, IfSome}
use Rattle.spots.specs.declared.spot.Spot.{Spot}

-- from a up to e
abbrev pub from_to : ℕ → ℕ → Spot
from_to a e = record { start = a; stop = e }

-- a place in a line of n bytes, if one is told: it has bytes, and all of them are the line's
abbrev pub Placed : ℕ → Option Spot → Type 0
Placed n r = IfSome r (λ s. (s.start < s.stop) × (s.stop ≤ n))
