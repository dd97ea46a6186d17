-- Laws of the refusals' numbers: a case that is not among all of them, or has another's number or place, is refused here.
-- Assumes nothing.
use Rattle.std.specs.Prelude.{◌≡◌, refl, List, [], ◌∷◌, ℕ, suc, ◌≤◌, length, Ok}
use Rattle.std.proofs.Common.{arith}
use Rattle.limits.specs.Refusals.{refusal_no, refusals, refusal_of, place_of}
use Rattle.limits.specs.declared.refusal.Refusal.{Refusal}

-- each number is its refusal's alone, and 0 is none's
pub refusal_back : (x : Refusal) → refusal_of (refusal_no x) ≡ Ok x
unfolding refusal_of
refusal_back Refusal.LineTooLong = refl
refusal_back Refusal.NotUtf8 = refl
refusal_back Refusal.ParseFailed = refl
refusal_back Refusal.NumberTooLarge = refl
refusal_back Refusal.InvalidArgument = refl
refusal_back Refusal.InvalidRange = refl
refusal_back Refusal.SumTooLarge = refl
refusal_back Refusal.BadAlias = refl
refusal_back Refusal.BadCommand = refl
refusal_back Refusal.UnknownWord = refl
refusal_back Refusal.Unimplemented = refl
refusal_back Refusal.StoreTooShort = refl
refusal_back Refusal.AliasesFull = refl
refusal_back Refusal.NotASession = refl

-- how many there are
abbrev pub refusal_count : ℕ
refusal_count = 14

pub refusals_count : length refusals ≡ refusal_count
refusals_count = refl

-- the greatest number
abbrev pub last_refusal : ℕ
last_refusal = 99

pub refusal_last : (x : Refusal) → refusal_no x ≤ last_refusal
refusal_last Refusal.LineTooLong = omega arith
refusal_last Refusal.NotUtf8 = omega arith
refusal_last Refusal.ParseFailed = omega arith
refusal_last Refusal.NumberTooLarge = omega arith
refusal_last Refusal.InvalidArgument = omega arith
refusal_last Refusal.InvalidRange = omega arith
refusal_last Refusal.SumTooLarge = omega arith
refusal_last Refusal.BadAlias = omega arith
refusal_last Refusal.BadCommand = omega arith
refusal_last Refusal.UnknownWord = omega arith
refusal_last Refusal.Unimplemented = omega arith
refusal_last Refusal.StoreTooShort = omega arith
refusal_last Refusal.AliasesFull = omega arith
refusal_last Refusal.NotASession = omega arith

-- the places count all refusals, in their order
abbrev places : List Refusal → List ℕ
places [] = []
places (x ∷ xs) = place_of x ∷ places xs

abbrev count_from : ℕ → List Refusal → List ℕ
count_from i [] = []
count_from i (x ∷ xs) = i ∷ count_from (suc i) xs

pub places_count : places refusals ≡ count_from 0 refusals
places_count = refl
