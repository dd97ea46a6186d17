-- Positions moved: what a reader of ranges answers, in the positions of a text with k bytes more in front.
-- Assumes nothing.
use Rattle.std.specs.Prelude.{ℕ, ◌+◌, Result, Ok, Err, Some, None}
use Rattle.ranges.specs.Range.{AtomRead, RangeRead}
use Rattle.ranges.specs.declared.range.RangeEnding.{RangeEnding}
use Rattle.ranges.specs.declared.range.RangeSpec.{RangeSpec}
use Rattle.limits.specs.declared.refusal.Refusal.{Refusal}

unfoldable pub shift_atom : ℕ → AtomRead → AtomRead
shift_atom k (Ok None) = Ok None
shift_atom k (Ok (Some (a, j))) = Ok (Some (a, k + j))
shift_atom k (Err why) = Err why

unfoldable pub shift_offsets : ℕ → Result ℕ Refusal → Result ℕ Refusal
shift_offsets k (Ok j) = Ok (k + j)
shift_offsets k (Err why) = Err why

abbrev pub shift_end : ℕ → RangeEnding → RangeEnding
shift_end k e = record { atom = e.atom; from = k + e.from; to = k + e.to }

unfoldable pub shift_ending : ℕ → Result RangeEnding Refusal → Result RangeEnding Refusal
shift_ending k (Ok e) = Ok (shift_end k e)
shift_ending k (Err why) = Err why

unfoldable pub shift_spec : ℕ → RangeSpec → RangeSpec
shift_spec k (RangeSpec.Single e) = RangeSpec.Single (shift_end k e)
shift_spec k (RangeSpec.Double l r p) = RangeSpec.Double (shift_end k l) (shift_end k r) p

unfoldable pub shift_range : ℕ → RangeRead → RangeRead
shift_range k (Ok None) = Ok None
shift_range k (Ok (Some (g, j))) = Ok (Some (shift_spec k g, k + j))
shift_range k (Err why) = Err why
