-- A text as it is written into a lent buffer: its bytes so far, and how many more fit. What does not fit is left out.
-- Assumes nothing.
use Rattle.std.specs.Prelude.{◌≡◌, List, ℕ, [], ◌+◌, ◌-◌, ◌++◌, length, take}

-- the bytes so far, and how many more there is room for
pub record Written : Type 0 where
  pub bytes : List ℕ
  pub room : ℕ

-- the text that ends at a place of a buffer
unfoldable pub up_to : List ℕ → ℕ → Written
up_to buffer end = record { bytes = take end buffer; room = length buffer - end }

-- nothing is written yet
unfoldable pub blank : ℕ → Written
blank room = record { bytes = []; room = room }

-- with more bytes behind them, as many as there is room for
unfoldable pub with : Written → List ℕ → Written
with w more = record { bytes = w.bytes ++ take w.room more; room = w.room - length more }

-- only the first n of them
unfoldable pub cut : Written → ℕ → Written
cut w n = record { bytes = take n w.bytes; room = w.room + (length w.bytes - n) }

-- What a function ensures that writes: it adds bytes behind those that were there, which stay as they are. Where not all of them fit,
-- the last ones are left out.
pub record Adds (before after : Written) : Type 0 where
  pub more : List ℕ
  pub is : after ≡ with before more
