-- What document 01 says of the table as a whole: "28 commands, 42 aliases, 68 different words ..; numbers 0 to 27 in its order"; and that
-- each word leads to its command.
-- All by computation.
-- Assumes nothing.
use Rattle.std.specs.Prelude.{◌≡◌, refl, Bool, true, false, ◌&&◌, List, [], ◌∷◌, ℕ, suc, eqb, leb, length, Option, Some, None}
use Rattle.limits.specs.Limits.{last_command}
use Rattle.words.specs.Words.{Row, aliases, names, shipped, same, lookup_in, lookup}

-- how many different words there are
abbrev pub different : List Row → ℕ
different [] = 0
different (r ∷ rs) = elim (lookup_in rs r.word) [ Some c ↦ different rs | None ↦ suc (different rs) ]

pub commands_28 : length names ≡ 28
unfolding names
commands_28 = refl

pub aliases_42 : length aliases ≡ 42
unfolding aliases
aliases_42 = refl

pub words_68 : different shipped ≡ 68
unfolding shipped aliases names lookup_in same
words_68 = refl

-- whether the rows have the commands n, n + 1, .. in this order
abbrev pub numbered : ℕ → List Row → Bool
numbered n [] = true
numbered n (r ∷ rs) = eqb r.command n && numbered (suc n) rs

pub names_numbered : numbered 0 names ≡ true
unfolding names
names_numbered = refl

-- whether each row has a command that is at most n
abbrev pub all_up_to : ℕ → List Row → Bool
all_up_to n [] = true
all_up_to n (r ∷ rs) = leb r.command n && all_up_to n rs

pub words_last : all_up_to last_command shipped ≡ true
unfolding shipped aliases names
words_last = refl

-- whether each word of the rows leads to the command that stands beside it
abbrev leads : Option ℕ → ℕ → Bool
leads (Some c) d = eqb c d
leads None d = false

abbrev pub all_lead : List Row → Bool
all_lead [] = true
all_lead (r ∷ rs) = leads (lookup r.word) r.command && all_lead rs

-- `close` and `only` stand twice, as alias and as name, and lead to the same
pub words_lead : all_lead shipped ≡ true
unfolding shipped aliases names lookup lookup_in same
words_lead = refl
