-- `tally::outcome` meets its contract.
-- Assumes nothing.
use Rattle.std.proofs.Common.{◌≡◌, arith, eq-eqb, ne_eqb}
use Rattle.tally.specs.Tally.{outcome_of}
use Rattle.tally.proofs.outcome.Goals as goal

pub returns-then-r-gt0 : goal.returns-then-r-gt0
unfolding outcome_of
returns-then-r-gt0 c = let n = c.args.r.refusal in record { value = rw (ne_eqb n 0 (λ e. omega arith)) c.entry.ensures.value; bound = omega (arith, c.entry.ensures.bound) }

pub returns-then-byte_at-eq0 : goal.returns-then-byte_at-eq0
unfolding outcome_of
returns-then-byte_at-eq0 c = let no : c.args.r.refusal ≡ 0 = omega (arith, c.if-r-gt0.false) in record { value = rw (eq-eqb _ _ no, ← c.byte_at.ensures, eq-eqb _ _ c.if-byte_at-eq0.true); bound = omega arith }

pub returns : goal.returns
unfolding outcome_of
returns c = let no : c.args.r.refusal ≡ 0 = omega (arith, c.if-r-gt0.false) in record { value = rw (eq-eqb _ _ no, ← c.byte_at.ensures, ne_eqb _ _ c.if-byte_at-eq0.false); bound = omega arith }
