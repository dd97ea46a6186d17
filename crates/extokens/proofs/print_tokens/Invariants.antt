-- `extokens::print_tokens` is safe and ends: before the line's end each step moves on.
-- Assumes nothing.
use Rattle.std.proofs.Common.{◌-◌, length}
use Rattle.scanner.specs.StepLaws.{Standing}
use Rattle.extokens.proofs.print_tokens.Given as goal

abbrev pub invariant-loop-here : goal.invariant-loop-here
invariant-loop-here g l = Standing l.line l.here

abbrev pub decreases-loop-here : goal.decreases-loop-here
decreases-loop-here g l = length l.line - l.here.token.start
