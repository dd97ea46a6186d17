-- Positions moved: a reading, in the positions of a text with k bytes more in front.
-- Assumes nothing.
use Rattle.std.specs.Prelude.{ℕ, ◌+◌, Ok, Err, Option, Some, None}
use Rattle.ranges.specs.Shift.{shift_range}
use Rattle.reading.specs.declared.line.CommandDescription.{CommandDescription}
use Rattle.reading.specs.Line.{CommandRead}

unfoldable pub shift_word : ℕ → Option (ℕ × ℕ) → Option (ℕ × ℕ)
shift_word k (Some (j, m)) = Some (k + j, k + m)
shift_word k None = None

abbrev pub shift_command : ℕ → CommandDescription → CommandDescription
shift_command k d =
    record {
      range = shift_range k d.range;
      word = k + d.word;
      end = k + d.end;
      bang = d.bang;
      argument = k + d.argument;
      stop = k + d.stop;
    }

unfoldable pub shift_reading : ℕ → CommandRead → CommandRead
shift_reading k (Ok d) = Ok (shift_command k d)
shift_reading k (Err why) = Err why
