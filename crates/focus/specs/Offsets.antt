-- The offsets of an end as a list, and their sum by that list alone.
-- Document 01, section Commands: "sum_mods starts at Next, 0. Same direction adds; the other direction turns and leaves the difference's
-- size." Refusal 7: "An offset sum that is worked out passes 2^64 - 1".
-- Assumes nothing.
use Rattle.std.specs.Prelude.{◌≡◌, Bool, true, false, List, [], ◌∷◌, ℕ, ◌+◌, ◌^◌, ◌<◌, eqb, Ok}
use Rattle.scan.specs.Scan.{byte_at}
use Rattle.ranges.specs.Offset.{offset_at}
use Rattle.ranges.specs.Range.{is_sign}
use Rattle.ranges.specs.declared.range.RangeEnding.{RangeEnding}
use Rattle.focus.specs.Sum.{add_to, sum_at, Sum}

-- an offset: whether its sign is `+`, and its size
abbrev pub Signed : Type 0
Signed = Bool × ℕ

-- in the text s, from i up to j, stand these offsets, one behind the other, each below 2^64, and none behind the last
pub data Offsets (s : List ℕ) : ℕ → ℕ → List Signed → Type 0 where
  none : {i : ℕ} → is_sign (byte_at s i) ≡ false → Offsets s i i []
  more : {i n k b j : ℕ} {os : List Signed} → is_sign (byte_at s i) ≡ true → offset_at s (i + 1) ≡ Ok (n, k, b) → n < 2 ^ 64 →
      Offsets s k j os → Offsets s i j ((eqb (byte_at s i) 0x2B, n) ∷ os)

-- a sum, and then these offsets
unfoldable pub add_all : Sum → List Signed → Sum
add_all a [] = a
add_all a (o ∷ os) = add_all (add_to a o.0 o.1) os

-- the offsets from i up to j, and that a sum from i on is theirs: it stops at j, and only an addition passes 2^64 - 1
pub record Summed (s : List ℕ) (i j : ℕ) : Type 0 where
  pub offsets : List Signed
  pub stand : Offsets s i j offsets
  pub sum : (a : Sum) → sum_at a s i ≡ add_all a offsets

-- of an end
abbrev pub EndSummed : List ℕ → RangeEnding → Type 0
EndSummed s e = Summed s e.from e.to
