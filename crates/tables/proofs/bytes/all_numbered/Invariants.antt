-- `bytes::all_numbered` meets its contract. The invariant: m is below 26 just where all bytes so far are of the class.
-- Assumes nothing.
use Rattle.std.proofs.Common.{◌≡◌, nat_lt, take}
use Rattle.std.specs.List.{list_all}
use Rattle.tables.proofs.bytes.all_numbered.Given as goal

abbrev pub invariant-loop-i : goal.invariant-loop-i
invariant-loop-i g l = nat_lt l.m 26 ≡ list_all g.C.Class.rule (take l.i l.s)
