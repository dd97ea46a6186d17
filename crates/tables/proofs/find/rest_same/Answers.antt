-- `find::rest_same` meets its contract: the last bytes are alike, then the first eight, then those behind them.
-- Assumes nothing.
use Rattle.std.proofs.Common.{sym, ◌∙◌, arith}
use Rattle.tables.specs.FindLaws.{rest_short, rest_other, rest_two, rest_three}
use Rattle.tables.proofs.find.rest_same.Goals as goal

pub returns-then-m-le8 : goal.returns-then-m-le8
returns-then-m-le8 c = let b = c.args.end.now.b.now in
    let w = c.args.w.now.bytes.now in
    rest_short b w c.args.end.now.e c.args.end.now.typed c.args.w.now.typed (omega arith) (omega arith) (omega arith) c.requires.w_value (omega arith)

pub returns-then-low_eight : goal.returns-then-low_eight
returns-then-low_eight c = let b = c.args.end.now.b.now in
    let w = c.args.w.now.bytes.now in
    rest_other b w c.args.end.now.e c.args.end.now.typed c.args.w.now.typed (omega arith) (omega arith) (omega arith) c.requires.w_value (omega arith)
    (λ n. c.if-low_eight.true (c.low_eight.ensures ∙ n ∙ sym c.low_eight-2.ensures))

pub returns-then-m-le16 : goal.returns-then-m-le16
returns-then-m-le16 c = let b = c.args.end.now.b.now in
    let w = c.args.w.now.bytes.now in
    let n = sym c.low_eight.ensures ∙ c.if-low_eight.false ∙ c.low_eight-2.ensures in
    rest_two b w c.args.end.now.e c.args.end.now.typed c.args.w.now.typed (omega arith) (omega arith) (omega arith) c.requires.w_value (omega arith) n (omega arith)

pub returns : goal.returns
returns c = let b = c.args.end.now.b.now in
    let w = c.args.w.now.bytes.now in
    let n = sym c.low_eight.ensures ∙ c.if-low_eight.false ∙ c.low_eight-2.ensures in
    rw (c.low_eight-3.ensures, c.low_eight-4.ensures)
    (rest_three b w c.args.end.now.e c.args.end.now.typed c.args.w.now.typed (omega arith) (omega arith) (omega arith) c.requires.w_value (omega arith) n (omega arith) (omega arith))
