-- What a handler answers: an action, or a refusal.
-- Assumes nothing.
use Rattle.std.specs.Prelude.{Result}
use Rattle.limits.specs.declared.refusal.Refusal.{Refusal}
use Rattle.actions.specs.declared.action.Action.{Action}

abbrev pub Done : Type 0
Done = Result Action Refusal
