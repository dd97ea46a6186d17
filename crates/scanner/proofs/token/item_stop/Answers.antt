-- `token::item_stop` meets its contract.
-- Assumes nothing.
use mathlib.Core.Path.{◌∙◌, sym}
use native.Mathlib.Omega.{arith}
use borrow.Author.Tests.{eq-eqb, ne_eqb}
use mathlib.Core.Bool.{true}
use Rattle.scan.specs.RunLaws.{byte_inside}
use Rattle.lists.specs.Lists.{item_at}
use Rattle.lists.specs.ListLaws.{room}
use Rattle.scanner.proofs.token.item_stop.Goals as goal

pub item_of-requires : goal.item_of-requires
item_of-requires c = let h = byte_inside c.args.s.now c.args.at 0x22 (sym c.byte_at.ensures ∙ c.if-byte_at-eq34.true) (omega arith) in
    room true c.args.s.now _ _ (sym c.text_end.ensures) (omega arith)

pub returns-then-byte_at-eq34 : goal.returns-then-byte_at-eq34
unfolding item_at
returns-then-byte_at-eq34 c = rw (
  c.item_of.ensures,
  c.text_end.ensures,
  ← c.byte_at.ensures,
  eq-eqb _ _ c.if-byte_at-eq34.true,
)

pub returns : goal.returns
unfolding item_at
returns c = rw (
  c.item_of-2.ensures,
  c.text_end-2.ensures,
  ← c.byte_at.ensures,
  ne_eqb _ _ c.if-byte_at-eq34.false,
)
