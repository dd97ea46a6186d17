-- The tally of a sheet: for each outcome of a line, how many lines came to it. First stand the refusals, in the order of their numbers, then
-- numbers that no refusal has, lines with an action, and lines that give nothing. Counts are modulo 2^64.
-- Assumes nothing.
use Rattle.std.specs.Prelude.{ℕ, zero, suc, ◌+◌, ◌%◌, ◌^◌, cond, List, length, ◌==◌, slice_index, slice_set, Result, Ok, Err}
use Rattle.limits.specs.Refusals.{refusals, refusal_of, place_of}
use Rattle.limits.specs.declared.refusal.NoRefusal.{NoRefusal}
use Rattle.limits.specs.declared.refusal.Refusal.{Refusal}
use Rattle.scan.specs.Scan.{byte_at}
use Rattle.run.specs.declared.reply.LineReply.{LineReply}

-- where lines are counted that are refused by a number that no refusal has, those with an action, and those that give nothing
abbrev pub others : ℕ
others = length refusals

abbrev pub actions : ℕ
actions = length refusals + 1

abbrev pub nothing : ℕ
nothing = length refusals + 2

-- how many counts there are
abbrev pub counts : ℕ
counts = length refusals + 3

unfoldable pub added_to : ℕ → ℕ → ℕ
added_to n m = (n + m) % 2 ^ 64

-- where lines refused by a number are counted
abbrev entry_by : Result Refusal NoRefusal → ℕ
entry_by (Ok x) = place_of x
entry_by (Err _) = others

unfoldable pub entry_of : ℕ → ℕ
entry_of n = entry_by (refusal_of n)

-- where a line is counted, by what it answers and what it writes: the kind of an accepted line's record is 0 for nothing
unfoldable pub outcome_of : LineReply → List ℕ → ℕ
outcome_of r written = cond (r.refusal == 0) (cond (byte_at written 0 == 0) nothing actions) (entry_of r.refusal)

-- one line more
unfoldable pub with_line : List ℕ → LineReply → List ℕ → List ℕ
with_line t r written = slice_set t (outcome_of r written) (added_to (slice_index t (outcome_of r written)) 1)

-- the sum of the first n counts
unfoldable pub sum_up_to : List ℕ → ℕ → ℕ
sum_up_to t zero = 0
sum_up_to t (suc n) = added_to (sum_up_to t n) (slice_index t n)
