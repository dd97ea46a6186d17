-- `number::End::tail` meets its contract: no bit is lost.
-- Assumes nothing.
use Rattle.std.proofs.Common.{◌≡◌, ℕ, ◌+◌, ◌-◌, ◌*◌, ◌/◌, ◌^◌, ap, ◌∙◌, mod-eq_of_lt, div-mul-le_self, arith}
use Rattle.scan.specs.Number.{number_of}
use Rattle.scan.specs.Scan.{part_of}
use Rattle.tables.specs.Tail.{tail_of}
use Rattle.tables.proofs.number.End.tail.Goals as goal

pub returns : goal.returns
unfolding tail_of
returns c = let a = c.args.self.now in
    let x = c.low_eight.result in
    let q : a.e - 8 + 8 ≡ a.e = omega arith in
    mod-eq_of_lt (omega (arith, div-mul-le_self x (2 ^ c.args.h)))
    ∙ ap (λ (n : ℕ). n / 2 ^ c.args.h * 2 ^ c.args.h) (c.low_eight.ensures ∙ ap (λ (n : ℕ). number_of (part_of a.b.now (a.e - 8) n)) q)
