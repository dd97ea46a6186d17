-- `put_bytes` meets its contract. The invariant: what is left of src, written from here on, gives the store asked for.
-- Assumes nothing.
use Rattle.std.proofs.Common.{◌+◌, drop}
use Rattle.store.specs.Splice.{Writing}
use Rattle.store.proofs.put_bytes.Given as goal

abbrev pub invariant-loop-j : goal.invariant-loop-j
invariant-loop-j l = Writing l.initial.store l.at l.src l.store (l.at + l.j) (drop l.j l.src)
