-- Positions moved: what a reading leads to, in the positions of a text with k bytes more in front.
-- Assumes nothing.
use Rattle.std.specs.Prelude.{ℕ, ◌+◌}
use Rattle.reading.specs.Shift.{shift_command}
use Rattle.commands.specs.declared.next.Next.{Next}

unfoldable pub shift_next : ℕ → Next → Next
shift_next k Next.Empty = Next.Empty
shift_next k (Next.Refused e) = Next.Refused e
shift_next k (Next.Unknown a e) = Next.Unknown (k + a) (k + e)
shift_next k (Next.Runs n d) = Next.Runs n (shift_command k d)
shift_next k (Next.Again ch a e) = Next.Again ch (k + a) (k + e)
