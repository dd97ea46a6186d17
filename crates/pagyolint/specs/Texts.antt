-- The calls that need no session: a refusal's sentence and a command's name, copied to the front of a store, and the version.
-- A store that is shorter than the text is 12, and a command's number above 27 is 9 before that.
-- Assumes nothing.
use Rattle.std.specs.Prelude.{cond, List, ℕ, leb, length}
use Rattle.limits.specs.Limits.{last_command}
use Rattle.limits.specs.Refusals.{refusal_no}
use Rattle.limits.specs.declared.refusal.Refusal.{Refusal}
use Rattle.reading.specs.Alone.{at_front}
use Rattle.words.specs.Words.{names}
use Rattle.spellings.specs.Spellings.{word_of}

-- a text t and a store of so many bytes: the refusal or 0, and how many bytes are written
unfoldable pub copy_no : List ℕ → ℕ → ℕ
copy_no t size = cond (leb (length t) size) 0 (refusal_no Refusal.StoreTooShort)

unfoldable pub copy_count : List ℕ → ℕ → ℕ
copy_count t size = cond (leb (length t) size) (length t) 0

-- the store afterwards
unfoldable pub copy_store : List ℕ → List ℕ → List ℕ
copy_store t store = cond (leb (length t) (length store)) (at_front t store) store

-- a command's name
unfoldable pub name_of : ℕ → List ℕ
name_of c = word_of names c

unfoldable pub name_no : ℕ → ℕ → ℕ
name_no c size = cond (leb c last_command) (copy_no (name_of c) size) (refusal_no Refusal.BadCommand)

unfoldable pub name_count : ℕ → ℕ → ℕ
name_count c size = cond (leb c last_command) (copy_count (name_of c) size) 0

unfoldable pub name_store : ℕ → List ℕ → List ℕ
name_store c store = cond (leb c last_command) (copy_store (name_of c) store) store

-- 1.0.0, as a million times the first number, a thousand times the second, and the third
abbrev pub version_number : ℕ
version_number = 1000000
