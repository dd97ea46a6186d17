-- A text that starts with spaces is read as the text without them, its positions moved.
-- Assumes nothing.
use Rattle.std.specs.Prelude.{◌≡◌, List, ℕ, ◌+◌, ◌≤◌, eqb, leb, length, Ok, Err, Option, Some, None}
use Rattle.std.proofs.Math.Path.{refl, sym, ap}
use Rattle.std.proofs.Common.{◌∙◌, length-drop}
use Rattle.std.proofs.Math.Nat.{add_assoc}
use native.Mathlib.Omega.{arith}
use Rattle.std.proofs.Math.ListN.{drop}
use Rattle.scan.specs.Bytes.{is_space, is_colon, is_word, is_text}
use Rattle.scan.specs.RunLaws.{run_at_later, run_at_within}
use Rattle.scan.specs.Scan.{run_at, byte_at}
use Rattle.scan.specs.ShiftLaws.{cond_shift, eqb_shift, byte_shift, part_shift, length_shift, run_at_shift}
use Rattle.ranges.specs.Range.{range_at, RangeRead}
use Rattle.ranges.specs.Shift.{shift_range}
use Rattle.ranges.specs.ShiftLaws.{range_at_shift}
use Rattle.reading.specs.Line.{skip_byte, word_at, rest_at, after_word, after_range, start_of, reading_of, argument_of}
use Rattle.reading.specs.Shift.{shift_word, shift_command, shift_reading}
use Rattle.reading.specs.declared.line.CommandDescription.{CommandDescription}

module _ (k : ℕ) (l : List ℕ) where
  -- past one byte
  skip_shift : (i b : ℕ) → skip_byte l (k + i) b ≡ k + skip_byte (drop k l) i b
  unfolding skip_byte
  skip_shift i b = rw (byte_shift k l i) (cond_shift (λ (n : ℕ). k + n) (eqb (byte_at (drop k l) i) b) (add_assoc k i 1) refl)

  -- words
  word_shift : (i : ℕ) → word_at l (k + i) ≡ shift_word k (word_at (drop k l) i)
  unfolding word_at shift_word
  word_shift i =
      let t = drop k l in
      let r = run_at is_word t i in
      rw (byte_shift k l i, run_at_shift k l is_word i, eqb_shift k r i, length_shift k l i, add_assoc k i 1)
      (cond_shift (shift_word k) (eqb (byte_at t i) 0x21) refl
      (cond_shift (shift_word k) (eqb r i)
      (cond_shift (shift_word k) (leb (length t) i) refl (cond_shift (shift_word k) (eqb (byte_at t i) 0x0A) refl refl)) refl))

  -- the argument is the same list
  pub argument_shift : (d : CommandDescription) → argument_of l (shift_command k d) ≡ argument_of (drop k l) d
  argument_shift d = part_shift k l d.argument d.stop

  -- the spaces reach as far as k
  module _ (h : k ≤ run_at is_space l 0) where
    -- so k bytes are there
    inside : length l ≡ k + length (drop k l)
    inside = omega (arith, run_at_within is_space l 0 (omega arith), length-drop k l)

    -- what stands behind the word, the word and the range
    rest_shift : (g : RangeRead) (i j m b : ℕ) → rest_at l (shift_range k g) (k + i) (k + j) (k + m) (k + b) ≡ shift_reading k (rest_at (drop k l) g i j m b)
    unfolding rest_at shift_reading
    rest_shift g i j m b =
        let t = drop k l in
        let a = run_at is_space t b in
        let e = run_at is_text t a in
        rw (run_at_shift k l is_space b, run_at_shift k l is_text a, skip_shift e 0x0A, inside, eqb_shift k (skip_byte t e 0x0A) (length t), eqb_shift k b m)
        (cond_shift (shift_reading k) (eqb (skip_byte t e 0x0A) (length t)) refl refl)

    after_word_shift : (g : RangeRead) (i : ℕ) (w : Option (ℕ × ℕ)) → after_word l (shift_range k g) (k + i) (shift_word k w) ≡ shift_reading k (after_word (drop k l) g i w)
    unfolding after_word shift_word shift_reading
    after_word_shift g i (Some (j, m)) = rw (skip_shift m 0x21) (rest_shift g i j m (skip_byte (drop k l) m 0x21))
    after_word_shift g i None = refl

    after_range_shift : (i : ℕ) (g : RangeRead) → after_range l (k + i) (shift_range k g) ≡ shift_reading k (after_range (drop k l) i g)
    unfolding after_range shift_range shift_reading
    after_range_shift i (Ok None) = rw (word_shift i) (after_word_shift (Ok None) i (word_at (drop k l) i))
    after_range_shift i (Ok (Some (g, j))) = rw (word_shift j) (after_word_shift (Ok (Some (g, j))) j (word_at (drop k l) j))
    after_range_shift i (Err why) = refl

    -- where the range or the word stands
    start_shift : start_of l ≡ k + start_of (drop k l)
    unfolding start_of
    start_shift =
        let t = drop k l in
        let q : k + 0 ≡ k = omega arith in
        let e : run_at is_space l 0 ≡ k + run_at is_space t 0 = sym (run_at_later is_space l 0 k (omega arith) h) ∙ ap (run_at is_space l) (sym q) ∙ run_at_shift k l is_space 0 in
        rw (e, run_at_shift k l is_colon (run_at is_space t 0), run_at_shift k l is_space (run_at is_colon t (run_at is_space t 0)))

    -- the reading
    pub reading_shift : reading_of l ≡ shift_reading k (reading_of (drop k l))
    unfolding reading_of
    reading_shift =
        let i = start_of (drop k l) in
        rw (start_shift, range_at_shift k l i) (after_range_shift i (range_at (drop k l) i))
