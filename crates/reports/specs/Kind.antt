-- What a line of a report is, by the bytes that it starts with.
-- Assumes nothing.
use Rattle.std.specs.Prelude.{ℕ, cond, eqb, List, length, Ok, Err, Some, None}
use Rattle.std.specs.List.{starts_with}
use Rattle.std.specs.Str.{bytes_eq}
use Rattle.scan.specs.Ascii.{ascii}
use Rattle.scan.specs.Bytes.{is_digit}
use Rattle.scan.specs.Scan.{byte_at, part_of, digits_at, Decimal}
use Rattle.reports.specs.declared.kind.Kind.{Kind}

-- a refused alias: its line's number stands behind the word
abbrev pub of_alias : Decimal → Kind
of_alias (Ok None) = Kind.Other
of_alias (Ok (Some (n, e))) = Kind.Alias n
of_alias (Err why) = Kind.Other

-- a number, with a space and a second number behind it, or the start of a line that sums up
abbrev pub numbered_by : ℕ → List ℕ → Kind
numbered_by n rest = cond (starts_with eqb rest (ascii " ")) (cond (is_digit (byte_at rest 1)) (Kind.Numbered n) Kind.Other) Kind.Other

abbrev pub of_number : List ℕ → Decimal → Kind
of_number s (Ok None) = Kind.Other
of_number s (Ok (Some (n, e))) = numbered_by n (part_of s e (length s))
of_number s (Err why) = Kind.Other

-- the kind of a line: by the word that it starts with, a text under a line by its four spaces, or else by its number
unfoldable pub kind_of : List ℕ → Kind
kind_of s =
    cond (starts_with eqb s (ascii "    ")) Kind.Text
    (cond (starts_with eqb s (ascii "alias ")) (of_alias (digits_at s 6))
    (cond (starts_with eqb s (ascii "exsheet ")) Kind.Exsheet
    (cond (starts_with eqb s (ascii "checklist ")) Kind.Checklist
    (cond (starts_with eqb s (ascii "sheet ")) Kind.Sheet
    (cond (starts_with eqb s (ascii "aliases ")) Kind.Aliases
    (cond (starts_with eqb s (ascii "reference sheet, ")) Kind.Reference
    (cond (bytes_eq s (ascii "reference sheet")) Kind.Heading (of_number s (digits_at s 0)))))))))
