-- `test::PlainClass::all` meets its contract. The invariant: each test tells of the bytes so far.
-- Assumes nothing.
use Rattle.std.proofs.Common.{◌≡◌, take}
use Rattle.std.specs.List.{list_all}
use Rattle.blocks.specs.Test.{no_blank, no_sign}
use Rattle.blocks.proofs.test.PlainClass.all.Given as goal

abbrev pub invariant-loop-i : goal.invariant-loop-i
invariant-loop-i l = (l.blank ≡ list_all no_blank (take l.i l.s)) × (l.sign ≡ list_all no_sign (take l.i l.s))
