-- `spots::line::spot_of` meets its contract.
-- Assumes nothing.
use Rattle.std.proofs.Common.{◌≡◌, ap, ◌∙◌, sym, arith, ℕ, Result, Ok, Err}
use Rattle.limits.specs.Refusals.{refusal_of}
use Rattle.limits.specs.RefusalsLaws.{refusal_back}
use Rattle.limits.specs.declared.refusal.Refusal.{Refusal}
use Rattle.spots.proofs.line.spot_of.Goals as goal

none : {A B : Type 0} (r : Result A B) (x : A) (y : B) → r ≡ Err y → r ≡ Ok x → ⊥
none r x y e f = let z : ◌≡◌ {A = ℕ} 0 1 = cc in absurd (omega arith)

pub returns-in-Ok-clause-bad : goal.returns-in-Ok-clause-bad
returns-in-Ok-clause-bad c = λ q.
    let e : Ok c.in-Ok.x ≡ Ok Refusal.NotUtf8 = sym c.in-Ok.is ∙ c.try_from.ensures ∙ ap refusal_of q ∙ refusal_back Refusal.NotUtf8 in
    c.refusal_spot.ensures.bad cc

pub returns-in-Ok-clause-word : goal.returns-in-Ok-clause-word
returns-in-Ok-clause-word c = λ q.
    let e : Ok c.in-Ok.x ≡ Ok Refusal.UnknownWord = sym c.in-Ok.is ∙ c.try_from.ensures ∙ ap refusal_of q ∙ refusal_back Refusal.UnknownWord in
    c.refusal_spot.ensures.word cc

pub returns-in-Err : goal.returns-in-Err
returns-in-Err c = record {
  placed = tt;
  bad = λ q. absurd (none _ Refusal.NotUtf8 _ c.in-Err.is (c.try_from.ensures ∙ ap refusal_of q ∙ refusal_back Refusal.NotUtf8));
  word = λ q. absurd (none _ Refusal.UnknownWord _ c.in-Err.is (c.try_from.ensures ∙ ap refusal_of q ∙ refusal_back Refusal.UnknownWord));
}
