-- `words::number` meets its contract. The invariant: n is the number of the bytes so far.
-- Assumes nothing.
use Rattle.std.proofs.Common.{◌≡◌, ◌^◌, ◌<◌}
use Rattle.scan.specs.Number.{number_at}
use Rattle.words.proofs.words.number.Given as goal

abbrev pub invariant-loop-k : goal.invariant-loop-k
invariant-loop-k g l = (l.n ≡ number_at 0 l.w l.i l.k) × (l.n < 256 ^ l.k)
