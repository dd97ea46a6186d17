-- `find::key` meets its contract: no bit is lost.
-- Assumes nothing.
use Rattle.std.proofs.Common.{length, ◌∙◌, arith}
use Rattle.tables.specs.TailLaws.{hidden_most}
use Rattle.tables.specs.FindLaws.{key_short, key_long}
use Rattle.tables.proofs.find.key.Goals as goal

pub overflow_shl-result : goal.overflow_shl-result
overflow_shl-result c = omega (arith, c.hidden.ensures, hidden_most (length c.args.w.now.bytes.now) (omega arith))

pub returns-then-m-lt8 : goal.returns-then-m-lt8
returns-then-m-lt8 c = let w = c.args.w.now.bytes.now in
    rw (c.number.ensures, c.hidden.ensures) (key_short w c.args.w.now.typed (omega arith))

pub returns : goal.returns
returns c = c.low_eight.ensures ∙ key_long c.args.w.now.bytes.now (omega arith)
