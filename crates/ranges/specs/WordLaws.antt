-- Where a word starts, there is no range.
-- Assumes nothing.
use Rattle.std.specs.Prelude.{◌≡◌, Bool, List, ◌∷◌, ℕ, ◌+◌, ◌<◌, eqb, drop, Ok, None}
use Rattle.std.proofs.Math.Path.{refl}
use Rattle.std.proofs.Common.{◌∙◌, sym, ap, arith}
use Rattle.std.proofs.Math.Bool.{true, false}
use Rattle.std.proofs.lemmas.Bool.{false≢true}
use Rattle.std.proofs.Math.Decide.{dec_lt}
use Rattle.std.proofs.Math.ListN.{length, get_or-eq_default}
use borrow.Author.Tests.{eq-eqb, ne_eqb, lt-leb}
use Rattle.scan.specs.Bytes.{is_word, is_digit}
use Rattle.scan.specs.Scan.{run_at, byte_at, digits_from, digits_at}
use Rattle.scan.specs.RunLaws.{drop_step, run_at_off}
use Rattle.scan.specs.DigitsLaws.{digital}
use Rattle.ranges.specs.Range.{is_sign, sign_atom, number_or, atom_at, offsets_from, offsets_at, with_offsets, after_atom, ending_at, after_first, range_at}

module _ (b : ℕ) (w : is_word b ≡ true) where
  -- a word's byte is none that is not a word's
  pub other : (x : ℕ) → is_word x ≡ false → eqb b x ≡ false
  other x h = ne_eqb b x (λ e. false≢true (sym h ∙ ap is_word (sym e) ∙ w))

  -- nor a digit
  no_digit : is_digit b ≡ false
  unfolding is_word
  no_digit = go (is_digit b) refl
    where
      go : (t : Bool) → is_digit b ≡ t → t ≡ false
      go false e = refl
      go true e =
          let d = digital b e in
          absurd
          (false≢true
          (rw (
            lt-leb 0x41 b (omega (arith, d.high)),
            lt-leb 0x61 b (omega (arith, d.high)),
            ne_eqb b 0x23 (λ q. omega (arith, d.low)),
            ne_eqb b 0x26 (λ q. omega (arith, d.low)),
            ne_eqb b 0x2A (λ q. omega (arith, d.low)),
            ne_eqb b 0x3C (λ q. omega (arith, d.high)),
            ne_eqb b 0x3D (λ q. omega (arith, d.high)),
            ne_eqb b 0x3E (λ q. omega (arith, d.high)),
            ne_eqb b 0x40 (λ q. omega (arith, d.high)),
            ne_eqb b 0x7E (λ q. omega (arith, d.high)),
          ) at w))

  -- nor a sign
  no_sign : is_sign b ≡ false
  unfolding is_sign is_word
  no_sign = rw (other 0x2B refl, other 0x2D refl)

-- offsets end before a byte that is no sign
offsets_off : (i b : ℕ) (bs : List ℕ) → is_sign b ≡ false → offsets_from 0 i (b ∷ bs) ≡ Ok i
unfolding offsets_from
offsets_off i b bs h = rw (h, offsets_from)

module _ (s : List ℕ) (i : ℕ) (w : is_word (byte_at s i) ≡ true) where
  word_inside : i < length s
  unfolding is_word
  word_inside = go (dec_lt i (length s))
    where
      go : Dec (i < length s) → i < length s
      go (yes p) = p
      go (no p) = absurd (false≢true (sym (ap is_word (get_or-eq_default s 0 (omega arith))) ∙ w))

  digits_word : digits_at s i ≡ Ok None
  unfolding digits_at digits_from run_at
  digits_word = rw (eq-eqb _ _ (run_at_off is_digit s i word_inside (no_digit (byte_at s i) w)))

  offsets_word : offsets_at s i ≡ Ok i
  unfolding offsets_at
  offsets_word = rw (drop_step s i word_inside) (offsets_off i (byte_at s i) (drop (i + 1) s) (no_sign (byte_at s i) w))

  pub range_word : range_at s i ≡ Ok None
  unfolding range_at ending_at atom_at number_or sign_atom after_atom with_offsets after_first is_word
  range_word =
      rw (
        digits_word,
        other (byte_at s i) w 0x2E refl,
        other (byte_at s i) w 0x25 refl,
        other (byte_at s i) w 0x24 refl,
        other (byte_at s i) w 0x5C refl,
        other (byte_at s i) w 0x27 refl,
        offsets_word,
        other (byte_at s i) w 0x2C refl,
        other (byte_at s i) w 0x3B refl,
        eq-eqb i i refl,
      )
