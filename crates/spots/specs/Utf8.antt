-- The place in a line that is not UTF-8.
-- Assumes nothing.
use Rattle.std.specs.Prelude.{◌≡◌, ℕ, ◌+◌, ◌<◌, ◌≤◌, true, false, List, length, Option, IsSomeAnd}
use Rattle.scan.specs.Scan.{part_of}
use Rattle.utf8.specs.Utf8.{is_utf8}
use Rattle.spots.specs.declared.spot.Spot.{Spot}

-- of more than n bytes from the front on, none are UTF-8
abbrev pub BadBehind : List ℕ → ℕ → Type 0
BadBehind line n = (m : ℕ) → n < m → m ≤ length line → is_utf8 (part_of line 0 m) ≡ false

-- the first n bytes are UTF-8, and no more of them are
pub record Utf8UpTo (line : List ℕ) (n : ℕ) : Type 0 where
  pub inside : n ≤ length line
  pub good : is_utf8 (part_of line 0 n) ≡ true
  pub bad : BadBehind line n

-- where the line is not UTF-8, the place r is the byte behind as many as are
abbrev pub BadAt : List ℕ → Option Spot → Type 0
BadAt line r = is_utf8 line ≡ false → IsSomeAnd r (λ s. Utf8UpTo line s.start × (s.stop ≡ s.start + 1))
