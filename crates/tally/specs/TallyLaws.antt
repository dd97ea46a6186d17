-- What is said of a tally: a line adds one to the sum of all counts, whatever it comes to, and the lines with an action, those that give
-- nothing and those refused are all lines.
-- Assumes nothing.
use Rattle.std.specs.Prelude.{◌≡◌, ℕ, zero, suc, ◌+◌, ◌<◌, ◌≤◌, Bool, true, false, ◌⊎◌, List, length, ◌==◌, slice_index, slice_set, refl, Result, Ok, Err}
use Rattle.std.proofs.Common.{inl, inr, eq-or-lt_of_le, arith, get_or-set_same, get_or-set_other}
use Rattle.limits.specs.Refusals.{refusals, refusal_of, place_of}
use Rattle.limits.specs.declared.refusal.Refusal.{Refusal}
use Rattle.limits.specs.declared.refusal.NoRefusal.{NoRefusal}
use Rattle.scan.specs.Scan.{byte_at}
use Rattle.run.specs.declared.reply.LineReply.{LineReply}
use Rattle.tally.specs.Tally.{actions, nothing, counts, added_to, entry_of, outcome_of, with_line, sum_up_to}

-- what is added to a number that is added, and to one that something is added to, is added to the sum
added_in : (a b m : ℕ) → added_to a (added_to b m) ≡ added_to (added_to a b) m
unfolding added_to
added_in a b m = omega arith

added_before : (a b m : ℕ) → added_to (added_to a m) b ≡ added_to (added_to a b) m
unfolding added_to
added_before a b m = omega arith

-- a count behind the first n is not in their sum
sum_behind : (t : List ℕ) (i v n : ℕ) → n ≤ i → sum_up_to (slice_set t i v) n ≡ sum_up_to t n
unfolding sum_up_to
sum_behind t i v zero h = refl
sum_behind t i v (suc n) h = rw (sum_behind t i v n (omega arith), get_or-set_other t i n v 0 (λ e. omega arith))

-- what is added to one of the first n counts is added to their sum
sum_added : (t : List ℕ) (i m n : ℕ) → i < length t → i < n → sum_up_to (slice_set t i (added_to (slice_index t i) m)) n ≡ added_to (sum_up_to t n) m
unfolding sum_up_to
sum_added t i m zero l h = absurd (omega arith)
sum_added t i m (suc n) l h = go (eq-or-lt_of_le (omega arith)) (sum_added t i m n l)
  where
    v : ℕ
    v = added_to (slice_index t i) m

    go : (i ≡ n) ⊎ (i < n) → (i < n → sum_up_to (slice_set t i v) n ≡ added_to (sum_up_to t n) m) → sum_up_to (slice_set t i v) (suc n) ≡ added_to (sum_up_to t (suc n)) m
    go (inl e) before = rw (← e, sum_behind t i v i (omega arith), get_or-set_same t i v 0 l) (added_in (sum_up_to t i) (slice_index t i) m)
    go (inr k) before = rw (before k, get_or-set_other t i n v 0 (λ e. omega arith)) (added_before (sum_up_to t n) (slice_index t n) m)

-- each refusal has its place among all
place_in : (x : Refusal) → place_of x < length refusals
place_in Refusal.LineTooLong = omega arith
place_in Refusal.NotUtf8 = omega arith
place_in Refusal.ParseFailed = omega arith
place_in Refusal.NumberTooLarge = omega arith
place_in Refusal.InvalidArgument = omega arith
place_in Refusal.InvalidRange = omega arith
place_in Refusal.SumTooLarge = omega arith
place_in Refusal.BadAlias = omega arith
place_in Refusal.BadCommand = omega arith
place_in Refusal.UnknownWord = omega arith
place_in Refusal.Unimplemented = omega arith
place_in Refusal.StoreTooShort = omega arith
place_in Refusal.AliasesFull = omega arith
place_in Refusal.NotASession = omega arith

-- where a line is counted there is a count
entry_in : (n : ℕ) → entry_of n < counts
unfolding entry_of
entry_in n = go (refusal_of n) refl
  where
    go : (x : Result Refusal NoRefusal) → refusal_of n ≡ x → entry_of n < counts
    go (Ok x) q = rw q (omega (arith, place_in x))
    go (Err _) q = rw q (omega arith)

outcome_in : (r : LineReply) (written : List ℕ) → outcome_of r written < counts
unfolding outcome_of
outcome_in r written = go (r.refusal == 0) (byte_at written 0 == 0) refl refl
  where
    go : (a b : Bool) → (r.refusal == 0) ≡ a → (byte_at written 0 == 0) ≡ b → outcome_of r written < counts
    go false b p q = rw p (entry_in r.refusal)
    go true true p q = rw (p, q) (omega arith)
    go true false p q = rw (p, q) (omega arith)

-- a line adds one to the sum of all counts
pub line_adds : (t : List ℕ) (r : LineReply) (written : List ℕ) → length t ≡ counts → sum_up_to (with_line t r written) counts ≡ added_to (sum_up_to t counts) 1
unfolding with_line
line_adds t r written e = sum_added t (outcome_of r written) 1 counts (omega (arith, outcome_in r written)) (outcome_in r written)

sum_two : (t : List ℕ) (n : ℕ) → added_to (added_to (slice_index t n) (slice_index t (suc n))) (sum_up_to t n) ≡ sum_up_to t (suc (suc n))
unfolding sum_up_to added_to
sum_two t n = omega arith

-- the lines with an action, those that give nothing and those refused are all lines
pub kinds_add : (t : List ℕ) → added_to (added_to (slice_index t actions) (slice_index t nothing)) (sum_up_to t (length refusals + 1)) ≡ sum_up_to t counts
kinds_add t = sum_two t actions
