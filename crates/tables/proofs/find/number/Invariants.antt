-- `find::number` meets its contract. The invariant: x is the number of the bytes from k on, of as many bytes.
-- Assumes nothing.
use Rattle.std.proofs.Common.{◌≡◌, ◌-◌, ◌*◌, ◌^◌, ◌<◌, ◌≤◌, length, drop}
use Rattle.scan.specs.Number.{number_of}
use Rattle.tables.proofs.find.number.Given as goal

abbrev pub invariant-loop-k : goal.invariant-loop-k
invariant-loop-k l = (l.k ≤ length l.w) × ((l.x ≡ number_of (drop l.k l.w)) × (l.x < 2 ^ (8 * (length l.w - l.k))))
