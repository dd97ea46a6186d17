-- The sentence of each refusal, in ASCII. Document 01 leaves the words open; the numbers in them are its limits, which `limits` has, and
-- tests/docs/limits holds the two together.
-- Look for `sentence_of`, `sentences`, `sentence`. Assumes nothing.
use Rattle.std.specs.Prelude.{List, [], ◌∷◌, ℕ}
use Rattle.limits.specs.Refusals.{refusal_no, refusals}
use Rattle.limits.specs.declared.refusal.Refusal.{Refusal}
use Rattle.scan.specs.Ascii.{ascii}
use Rattle.words.specs.Words.{Row}
use Rattle.spellings.specs.Rows.{row}
use Rattle.spellings.specs.Spellings.{word_of}

unfoldable pub sentence_of : Refusal → List ℕ
sentence_of Refusal.LineTooLong = ascii "the line is longer than 1024 bytes"
sentence_of Refusal.NotUtf8 = ascii "the line is not UTF-8"
sentence_of Refusal.ParseFailed = ascii "the line, or a list or range in it, does not parse"
sentence_of Refusal.NumberTooLarge = ascii "a number is above 18446744073709551615"
sentence_of Refusal.InvalidArgument = ascii "the command does not take this argument"
sentence_of Refusal.InvalidRange = ascii "the command does not take this range"
sentence_of Refusal.SumTooLarge = ascii "a sum of offsets is above 18446744073709551615"
sentence_of Refusal.BadAlias = ascii "the alias is not 1 to 24 word characters"
sentence_of Refusal.BadCommand = ascii "the command's number is above 27"
sentence_of Refusal.UnknownWord = ascii "no command has this word"
sentence_of Refusal.Unimplemented = ascii "the command is not implemented"
sentence_of Refusal.StoreTooShort = ascii "the store is too short"
sentence_of Refusal.AliasesFull = ascii "there are 32 aliases, and no place for a new one"
sentence_of Refusal.NotASession = ascii "the bytes are not a session"

-- the sentence of each refusal and its number
unfoldable pub rows_for : List Refusal → List Row
rows_for [] = []
rows_for (x ∷ xs) = row (sentence_of x) (refusal_no x) ∷ rows_for xs

unfoldable pub sentences : List Row
sentences = rows_for refusals

-- the sentence of the refusal that has the number, or no byte
unfoldable pub sentence : ℕ → List ℕ
sentence n = word_of sentences n
