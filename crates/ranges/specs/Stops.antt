-- The bytes that end a range as the end of the text does.
-- Assumes nothing.
use Rattle.std.specs.Prelude.{◌≡◌, Bool, false, ◌||◌, ℕ, eqb}
use Rattle.scan.specs.Bytes.{is_digit, is_mark}
use Rattle.ranges.specs.Range.{is_sign}

-- what starts an atom that is no number, stands behind its backslash, or parts two ends: one of `. % $ \ ' / ? & , ;`
unfoldable pub is_point : ℕ → Bool
is_point b =
    eqb b 0x2E || eqb b 0x25 || eqb b 0x24 || eqb b 0x5C || eqb b 0x27 || eqb b 0x2F || eqb b 0x3F || eqb b 0x26 || eqb b 0x2C
    || eqb b 0x3B

-- a byte that no reader of ranges tells from the end
pub record Stops (y : ℕ) : Type 0 where
  pub no_digit : is_digit y ≡ false
  pub no_sign : is_sign y ≡ false
  pub no_mark : is_mark y ≡ false
  pub no_point : is_point y ≡ false
