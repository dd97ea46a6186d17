-- `find::stands` meets its contract.
-- Assumes nothing.
use Rattle.std.proofs.Common.{ℕ, length, sym, ap, ◌∙◌, arith}
use Rattle.tables.specs.Tail.{tail_of}
use Rattle.tables.specs.TailLaws.{hidden_most}
use Rattle.tables.specs.FindLaws.{ends_other}
use Rattle.tables.proofs.find.stands.Goals as goal

pub tail-requires : goal.tail-requires
tail-requires c = omega (arith, hidden_most (length c.args.w.now.bytes.now) (omega arith))

pub returns-then-tail-x : goal.returns-then-tail-x
returns-then-tail-x c = let b = c.args.end.now.b.now in
    let w = c.args.w.now.bytes.now in
    let t = c.tail.ensures ∙ ap (λ (n : ℕ). tail_of b c.args.end.now.e n) c.requires.h_value in
    ends_other b w c.args.end.now.e c.args.end.now.typed (omega arith) (omega arith) (omega arith) (λ n. c.if-tail-x.true (t ∙ n ∙ sym c.requires.x_value))
