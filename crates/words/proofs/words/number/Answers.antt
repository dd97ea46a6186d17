-- `words::number` meets its contract.
-- Assumes nothing.
use Rattle.std.proofs.Common.{◌+◌, ◌≡◌, ap, ◌∙◌, arith, refl}
use Rattle.scan.specs.Number.{number_at}
use Rattle.words.specs.KeyLaws.{number_next, pow_next, few_fit}
use Rattle.words.proofs.words.number.Goals as goal

pub loop-k-init : goal.loop-k-init
unfolding number_at
loop-k-init g c = (refl, omega arith)

pub overflow_mul-n : goal.overflow_mul-n
overflow_mul-n g c = omega (arith, c.loop-k.invariant.1, few_fit c.loop-k.k (omega (arith, c.requires.few)))

pub overflow_add-n-in-loop-k : goal.overflow_add-n-in-loop-k
overflow_add-n-in-loop-k g c = omega (arith, c.loop-k.invariant.1, few_fit c.loop-k.k (omega (arith, c.requires.few)), c.type_inv.w (c.args.i + c.loop-k.k))

pub loop-k-preserved : goal.loop-k-preserved
loop-k-preserved g c =
    let l = c.loop-k in (
      number_next c.args.w.now c.args.i l.k l.n (omega (arith, c.requires.inside)) l.invariant.0,
      omega (arith, l.invariant.1, pow_next l.k, c.type_inv.w (c.args.i + l.k)),
    )

pub returns : goal.returns
returns g c =
    let e : c.loop-k.k ≡ g.row.N = omega (arith, c.loop-k.auto.k-end) in
    c.loop-k.invariant.0 ∙ ap (number_at 0 c.args.w.now c.args.i) e
