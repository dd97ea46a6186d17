-- The refusals of document 01, by their numbers: "Turned down because of the input", "Turned down because of the state", and 99.
-- Assumes nothing.
use Rattle.std.specs.Prelude.{cond, List, [], ◌∷◌, ℕ, Result, Ok, Err, eqb}
use Rattle.limits.specs.declared.refusal.Refusal.{Refusal}
use Rattle.limits.specs.declared.refusal.NoRefusal.{NoRefusal}

abbrev pub refusal_no : Refusal → ℕ
refusal_no Refusal.LineTooLong = 1
refusal_no Refusal.NotUtf8 = 2
refusal_no Refusal.ParseFailed = 3
refusal_no Refusal.NumberTooLarge = 4
refusal_no Refusal.InvalidArgument = 5
refusal_no Refusal.InvalidRange = 6
refusal_no Refusal.SumTooLarge = 7
refusal_no Refusal.BadAlias = 8
refusal_no Refusal.BadCommand = 9
refusal_no Refusal.UnknownWord = 10
refusal_no Refusal.Unimplemented = 11
refusal_no Refusal.StoreTooShort = 12
refusal_no Refusal.AliasesFull = 13
refusal_no Refusal.NotASession = 99

-- all of them, in the order of their numbers
abbrev pub refusals : List Refusal
refusals =
    Refusal.LineTooLong ∷ Refusal.NotUtf8 ∷ Refusal.ParseFailed ∷ Refusal.NumberTooLarge ∷ Refusal.InvalidArgument ∷
    Refusal.InvalidRange ∷ Refusal.SumTooLarge ∷ Refusal.BadAlias ∷ Refusal.BadCommand ∷ Refusal.UnknownWord ∷
    Refusal.Unimplemented ∷ Refusal.StoreTooShort ∷ Refusal.AliasesFull ∷ Refusal.NotASession ∷ []

-- the refusal among these that has the number n
abbrev pub among : ℕ → List Refusal → Result Refusal NoRefusal
among n [] = Err (record { number = n })
among n (x ∷ xs) = cond {A = Result Refusal NoRefusal} (eqb n (refusal_no x)) (Ok x) (among n xs)

-- the refusal that a number stands for: none for 0, which a call answers that was not refused, whatever numbers the refusals have
unfoldable pub refusal_of : ℕ → Result Refusal NoRefusal
refusal_of n = cond {A = Result Refusal NoRefusal} (eqb n 0) (Err (record { number = 0 })) (among n refusals)

-- the place of a refusal among all
abbrev pub place_of : Refusal → ℕ
place_of Refusal.LineTooLong = 0
place_of Refusal.NotUtf8 = 1
place_of Refusal.ParseFailed = 2
place_of Refusal.NumberTooLarge = 3
place_of Refusal.InvalidArgument = 4
place_of Refusal.InvalidRange = 5
place_of Refusal.SumTooLarge = 6
place_of Refusal.BadAlias = 7
place_of Refusal.BadCommand = 8
place_of Refusal.UnknownWord = 9
place_of Refusal.Unimplemented = 10
place_of Refusal.StoreTooShort = 11
place_of Refusal.AliasesFull = 12
place_of Refusal.NotASession = 13

-- the number that a call answers: a refusal's, or 0 where it is not refused
abbrev pub number_of : {A : Type 0} → Result A Refusal → ℕ
number_of (Ok x) = 0
number_of (Err x) = refusal_no x

-- and how many bytes or things it counts: none where it is refused
abbrev pub count_of : Result ℕ Refusal → ℕ
count_of (Ok n) = n
count_of (Err x) = 0
