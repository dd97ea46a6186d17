-- `classes::Class::all` meets its contract. The invariant: m tells of the bytes so far.
-- Assumes nothing.
use Rattle.std.proofs.Common.{◌≡◌, take}
use Rattle.std.specs.List.{list_all}
use Rattle.scan.proofs.classes.Class.all.Given as goal

abbrev pub invariant-loop-i : goal.invariant-loop-i
invariant-loop-i g l = l.m ≡ list_all g.Self.Class.rule (take l.i l.s)
