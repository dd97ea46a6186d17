-- Positions moved: what a reader answers of a text, in the positions of a text with k bytes more in front.
-- Assumes nothing.
use Rattle.std.specs.Prelude.{ℕ, ◌+◌, Ok, Err, Some, None}
use Rattle.scan.specs.Scan.{Decimal}

unfoldable pub shift_decimal : ℕ → Decimal → Decimal
shift_decimal k (Ok None) = Ok None
shift_decimal k (Ok (Some (n, j))) = Ok (Some (n, k + j))
shift_decimal k (Err why) = Err why
