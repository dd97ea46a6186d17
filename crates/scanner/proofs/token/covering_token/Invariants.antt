-- `token::covering_token` meets its contract. The loop's invariant: the tokens before the one in hand are passed, and do not cover the place.
-- The measure is what stands behind the token. Assumes nothing.
use Prim.Native.Nat.{◌-◌}
use lib.ListN.{length}
use Rattle.scanner.specs.StepLaws.{Passed}
use Rattle.scanner.proofs.token.covering_token.Given as goal

abbrev pub invariant-loop-here : goal.invariant-loop-here
invariant-loop-here l = Passed l.line l.at l.here

abbrev pub decreases-loop-here : goal.decreases-loop-here
decreases-loop-here l = length l.line - l.here.token.stop
