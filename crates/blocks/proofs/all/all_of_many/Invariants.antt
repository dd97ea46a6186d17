-- `all::all_of_many` meets its contract. The invariant: m tells of the bytes so far.
-- Assumes nothing.
use Rattle.std.proofs.Common.{◌≡◌, ◌-◌, ◌≤◌, length, take}
use Rattle.std.specs.List.{list_all}
use Rattle.blocks.proofs.all.all_of_many.Given as goal

abbrev pub invariant-loop-m : goal.invariant-loop-m
invariant-loop-m g l = (l.i ≤ length l.s) × (128 ≤ l.i) × (l.m ≡ list_all g.C.Class.rule (take l.i l.s))

abbrev pub decreases-loop-m : goal.decreases-loop-m
decreases-loop-m g l = length l.s - l.i
