-- The bytes of a range and of a word are ASCII: where one starts at a place that cuts no character, it ends at such a place.
-- Look for `range_same`, `word_same`. Assumes nothing.
use Rattle.std.specs.Prelude.{◌≡◌, Bool, cond, ltb, leb, length, drop, Result, Ok, Err, Option, Some, None}
use Rattle.std.proofs.Math.Path.{refl}
use Rattle.std.proofs.Common.{◌∙◌, sym, ap, arith, length-drop}
use Rattle.std.proofs.Math.Bool.{true, false}
use Rattle.std.proofs.lemmas.Bool.{false≢true}
use mathlib.Core.List.{List, [], ◌∷◌}
use Prim.Native.Nat.{ℕ, zero, suc, ◌+◌, ◌-◌, ◌^◌, ◌<◌, ◌≤◌}
use Rattle.std.proofs.Math.Decide.{dec_lt}
use Rattle.std.proofs.Math.Dec.{eqb}
use borrow.Author.Tests.{eqb-true, le-leb, lt-leb, ne_eqb}
use Rattle.scan.specs.Bytes.{is_space, is_colon, is_digit, is_word, is_mark}
use Rattle.scan.specs.Scan.{run_from, run_at, byte_at, value_from, digits_from, digits_at, Decimal}
use Rattle.scan.specs.FoundLaws.{found_parts}
use Rattle.scan.specs.RunLaws.{byte_inside, run_carry, run_at_le, run_at_on, run_at_starts, drop_step}
use Rattle.ranges.specs.Range.{is_sign, escaped_atom, mark_atom, sign_atom, number_or, atom_at, offsets_from, offsets_at, with_offsets, after_atom, ending_at, double, after_first, range_at, AtomRead, RangeRead}
use Rattle.ranges.specs.Bounds.{off_stop, off_bare, off_value, off_large}
use Rattle.ranges.specs.declared.range.RangeEndingType.{RangeEndingType}
use Rattle.ranges.specs.declared.range.RangeEnding.{RangeEnding}
use Rattle.ranges.specs.declared.range.RangeSearchInit.{RangeSearchInit}
use Rattle.ranges.specs.declared.range.RangeSpec.{RangeSpec}
use Rattle.reading.specs.Line.{skip_byte, word_at}
use Rattle.utf8.specs.Utf8.{utf8_at, whole}
use Rattle.utf8.specs.Utf8Laws.{ascii_on}
use Rattle.limits.specs.declared.refusal.Refusal.{Refusal}

-- kinds of bytes that are ASCII ----------------------------------------------------------------------------------------------------------

-- a test that no byte from 0x80 on passes
abbrev pub Ascii : (ℕ → Bool) → Type 0
Ascii p = (b : ℕ) → p b ≡ true → b < 0x80

below : (p : ℕ → Bool) → ((b : ℕ) → 0x80 ≤ b → p b ≡ false) → Ascii p
below p f b h = go (dec_lt b 0x80)
  where
    go : Dec (b < 0x80) → b < 0x80
    go (yes k) = k
    go (no k) = absurd (false≢true (sym (f b (omega arith)) ∙ h))

-- a byte from 0x80 on lies in no range below, and is no byte below
module _ (b : ℕ) (h : 0x80 ≤ b) where
  no_digit : is_digit b ≡ false
  unfolding is_digit
  no_digit = simp (le-leb 0x30 b (omega arith), lt-leb b 0x39 (omega arith))

  no_word : is_word b ≡ false
  unfolding is_word
  no_word =
      simp (
        le-leb 0x41 b (omega arith),
        lt-leb b 0x5A (omega arith),
        le-leb 0x61 b (omega arith),
        lt-leb b 0x7A (omega arith),
        ne_eqb b 0x23 (λ e. omega arith),
        ne_eqb b 0x26 (λ e. omega arith),
        ne_eqb b 0x2A (λ e. omega arith),
        ne_eqb b 0x3C (λ e. omega arith),
        ne_eqb b 0x3D (λ e. omega arith),
        ne_eqb b 0x3E (λ e. omega arith),
        ne_eqb b 0x40 (λ e. omega arith),
        ne_eqb b 0x7E (λ e. omega arith),
      )

  no_mark : is_mark b ≡ false
  unfolding is_mark
  no_mark =
      simp (
        le-leb 0x41 b (omega arith),
        lt-leb b 0x5A (omega arith),
        le-leb 0x61 b (omega arith),
        lt-leb b 0x7A (omega arith),
        le-leb 0x30 b (omega arith),
        lt-leb b 0x39 (omega arith),
        ne_eqb b 0x3C (λ e. omega arith),
        ne_eqb b 0x3E (λ e. omega arith),
        ne_eqb b 0x5B (λ e. omega arith),
        ne_eqb b 0x5D (λ e. omega arith),
        ne_eqb b 0x27 (λ e. omega arith),
        ne_eqb b 0x5E (λ e. omega arith),
        ne_eqb b 0x2E (λ e. omega arith),
        ne_eqb b 0x22 (λ e. omega arith),
        ne_eqb b 0x60 (λ e. omega arith),
      )

  no_space : is_space b ≡ false
  unfolding is_space
  no_space = simp (ne_eqb b 0x20 (λ e. omega arith), ne_eqb b 0x09 (λ e. omega arith))

  no_colon : is_colon b ≡ false
  unfolding is_colon
  no_colon = ne_eqb b 0x3A (λ e. omega arith)

  no_sign : is_sign b ≡ false
  unfolding is_sign
  no_sign = simp (ne_eqb b 0x2B (λ e. omega arith), ne_eqb b 0x2D (λ e. omega arith))

pub space_ascii : Ascii is_space
space_ascii = below is_space no_space

pub colon_ascii : Ascii is_colon
colon_ascii = below is_colon no_colon

-- a byte that passes a test that 0 fails is not 0
nonzero : (p : ℕ → Bool) (b : ℕ) → p 0 ≡ false → p b ≡ true → 0 < b
nonzero p zero e h = absurd (false≢true (sym e ∙ h))
nonzero p (suc b) e h = omega arith

-- from one place to another over ASCII bytes ---------------------------------------------------------------------------------------------

module _ (s : List ℕ) where
  -- whether a place of s cuts no character of what stands from there on
  abbrev f : ℕ → Bool
  f i = utf8_at whole s i

  pub run_same : (p : ℕ → Bool) → Ascii p → (i : ℕ) → f i ≡ f (run_at p s i)
  run_same p a i = run_carry p s f i (λ k _ m t. ascii_on s k m (a (byte_at s k) t))

  pub byte_same : (i c : ℕ) → 0 < c → c < 0x80 → byte_at s i ≡ c → f i ≡ f (i + 1)
  byte_same i c z l e = ascii_on s i (byte_inside s i c e z) (omega arith)

  two_same : (i c : ℕ) → 0 < c → c < 0x80 → f i ≡ f (i + 1) → byte_at s (i + 1) ≡ c → f i ≡ f (i + 2)
  two_same i c z l e q = let n : i + 1 + 1 ≡ i + 2 = omega arith in e ∙ byte_same (i + 1) c z l q ∙ ap f n

  pub skip_same : (i c : ℕ) → 0 < c → c < 0x80 → f i ≡ f (skip_byte s i c)
  unfolding skip_byte
  skip_same i c z l = go (eqb (byte_at s i) c) refl
    where
      go : (t : Bool) → eqb (byte_at s i) c ≡ t → f i ≡ f (cond t (i + 1) i)
      go true e = byte_same i c z l (eqb-true (byte_at s i) c e)
      go false e = refl

  -- what s has from i on, byte by byte
  record Head (i b : ℕ) (bs : List ℕ) : Type 0 where
    inside : i < length s
    byte : byte_at s i ≡ b
    rest : drop (i + 1) s ≡ bs

  head_of : (i b : ℕ) (bs : List ℕ) → drop i s ≡ b ∷ bs → Head i b bs
  head_of i b bs d =
      let h : i < length s = omega (arith, ap length d, length-drop i s) in
      let e = drop_step s i h in
      record { inside = h; byte = (cc); rest = (cc) }

  -- digits and offsets -----------------------------------------------------------------------------------------------------------------------

  abbrev DecimalSame : ℕ → Decimal → Type 0
  DecimalSame i (Ok None) = Unit {0}
  DecimalSame i (Ok (Some (n, j))) = f i ≡ f j
  DecimalSame i (Err why) = Unit {0}

  digits_same : (i : ℕ) → DecimalSame i (digits_at s i)
  unfolding digits_at digits_from run_at
  digits_same i = go (eqb (run_from is_digit i (drop i s)) i) (ltb (value_from 0 (drop i s)) (2 ^ 64))
    where
      go : (t u : Bool) → DecimalSame i (cond {A = Decimal} t (Ok None) (cond u (Ok (Some (value_from 0 (drop i s), run_from is_digit i (drop i s)))) (Err Refusal.NumberTooLarge)))
      go true u = tt
      go false true = run_same is_digit (below is_digit no_digit) i
      go false false = tt

  -- a number ends where its digits do
  value_ends : (i n j : ℕ) → digits_from i (drop i s) ≡ Ok (Some (n, j)) → run_at is_digit s i ≡ j
  unfolding digits_from run_at
  value_ends i n j h = go (eqb (run_from is_digit i (drop i s)) i) (ltb (value_from 0 (drop i s)) (2 ^ 64)) h
    where
      r : ℕ
      r = run_from is_digit i (drop i s)

      go : (t u : Bool) → cond {A = Decimal} t (Ok None) (cond u (Ok (Some (value_from 0 (drop i s), r))) (Err Refusal.NumberTooLarge)) ≡ Ok (Some (n, j)) → r ≡ j
      go true u k = let z : ◌≡◌ {A = ℕ} 0 1 = cc in absurd (omega arith)
      go false true k = (found_parts (value_from 0 (drop i s)) n r j k).1
      go false false k = let z : ◌≡◌ {A = ℕ} 0 1 = cc in absurd (omega arith)

  abbrev OffsetsSame : ℕ → Result ℕ Refusal → Type 0
  OffsetsSame i (Ok j) = f i ≡ f j
  OffsetsSame i (Err why) = Unit {0}

  offsets_past : (i j : ℕ) (r : Result ℕ Refusal) → f i ≡ f j → OffsetsSame j r → OffsetsSame i r
  offsets_past i j (Ok k) e h = e ∙ h
  offsets_past i j (Err why) e h = tt

  -- xs is what s has from i on, and its first k bytes are digits
  offsets_from_lem : (xs : List ℕ) (k i : ℕ) → drop i s ≡ xs → i + k ≤ run_at is_digit s i → OffsetsSame i (offsets_from k i xs)
  unfolding offsets_from
  offsets_from_lem [] zero i d h = refl
  offsets_from_lem [] (suc k) i d h = refl
  offsets_from_lem (b ∷ bs) (suc k) i d h =
      let p = head_of i b bs d in
      let t = run_at_starts is_digit s i (omega arith) in
      offsets_past i (i + 1) (offsets_from k (i + 1) bs) (ascii_on s i p.inside (below is_digit no_digit (byte_at s i) t))
      (offsets_from_lem bs k (i + 1) p.rest (omega (arith, run_at_on is_digit s i p.inside t)))
  offsets_from_lem (b ∷ bs) zero i d h = go (is_sign b) (digits_from (i + 1) bs) refl refl (λ k. offsets_from_lem bs k (i + 1))
    where
      p : Head i b bs
      p = head_of i b bs d

      signed : is_sign b ≡ true → f i ≡ f (i + 1)
      signed t = ascii_on s i p.inside (below is_sign no_sign (byte_at s i) (ap is_sign p.byte ∙ t))

      go : (t : Bool) (n : Decimal) → is_sign b ≡ t → digits_from (i + 1) bs ≡ n →
          ((k : ℕ) → drop (i + 1) s ≡ bs → i + 1 + k ≤ run_at is_digit s (i + 1) → OffsetsSame (i + 1) (offsets_from k (i + 1) bs)) → OffsetsSame i (offsets_from 0 i (b ∷ bs))
      go false n t e r = rw (off_stop i b bs t) refl
      go true (Ok None) t e r =
          rw (off_bare i b bs t e) (offsets_past i (i + 1) (offsets_from 0 (i + 1) bs) (signed t) (r 0 p.rest (omega (arith, run_at_le is_digit s (i + 1)))))
      go true (Ok (Some (n, j))) t e r =
          let q = value_ends (i + 1) n j (ap (digits_from (i + 1)) p.rest ∙ e) in
          rw (off_value i b bs n j t e)
          (offsets_past i (i + 1) (offsets_from (j - (i + 1)) (i + 1) bs) (signed t) (r (j - (i + 1)) p.rest (omega (arith, run_at_le is_digit s (i + 1), q))))
      go true (Err why) t e r = rw (off_large i b bs t e) tt

  offsets_same : (i : ℕ) → OffsetsSame i (offsets_at s i)
  unfolding offsets_at
  offsets_same i = offsets_from_lem (drop i s) 0 i refl (omega (arith, run_at_le is_digit s i))

  -- atoms ---------------------------------------------------------------------------------------------------------------------------------------

  abbrev AtomSame : ℕ → AtomRead → Type 0
  AtomSame i (Ok None) = Unit {0}
  AtomSame i (Ok (Some (a, j))) = f i ≡ f j
  AtomSame i (Err why) = Unit {0}

  -- a test on a byte, and what stands in each arm
  byte_test : (i b c : ℕ) (x y : AtomRead) → (b ≡ c → AtomSame i x) → AtomSame i y → AtomSame i (cond (eqb b c) x y)
  byte_test i b c x y g h = go (eqb b c) refl
    where
      go : (t : Bool) → eqb b c ≡ t → AtomSame i (cond t x y)
      go true q = g (eqb-true b c q)
      go false q = h

  module _ (i : ℕ) where
    escaped_same : f i ≡ f (i + 1) → AtomSame i (escaped_atom i (byte_at s (i + 1)))
    unfolding escaped_atom
    escaped_same e =
        byte_test i (byte_at s (i + 1)) 0x2F _ _ (two_same i 0x2F (omega arith) (omega arith) e)
        (byte_test i (byte_at s (i + 1)) 0x3F _ _ (two_same i 0x3F (omega arith) (omega arith) e)
        (byte_test i (byte_at s (i + 1)) 0x26 _ _ (two_same i 0x26 (omega arith) (omega arith) e) tt))

    mark_same : f i ≡ f (i + 1) → AtomSame i (mark_atom i (byte_at s (i + 1)))
    unfolding mark_atom is_mark
    mark_same e = go (is_mark (byte_at s (i + 1))) refl
      where
        go : (t : Bool) → is_mark (byte_at s (i + 1)) ≡ t → AtomSame i (cond {A = AtomRead} t (Ok (Some (RangeEndingType.Mark (byte_at s (i + 1)), i + 2))) (Ok None))
        go true q = two_same i (byte_at s (i + 1)) (nonzero is_mark (byte_at s (i + 1)) refl q) (below is_mark no_mark (byte_at s (i + 1)) q) e refl
        go false q = tt

    sign_same : AtomSame i (sign_atom i (byte_at s i) (byte_at s (i + 1)))
    unfolding sign_atom
    sign_same =
        byte_test i (byte_at s i) 0x2E _ _ (byte_same i 0x2E (omega arith) (omega arith))
        (byte_test i (byte_at s i) 0x25 _ _ (byte_same i 0x25 (omega arith) (omega arith))
        (byte_test i (byte_at s i) 0x24 _ _ (byte_same i 0x24 (omega arith) (omega arith))
        (byte_test i (byte_at s i) 0x5C _ _ (λ q. escaped_same (byte_same i 0x5C (omega arith) (omega arith) q))
        (byte_test i (byte_at s i) 0x27 _ _ (λ q. mark_same (byte_same i 0x27 (omega arith) (omega arith) q)) tt))))

    number_same : (d : Decimal) (a : AtomRead) → DecimalSame i d → AtomSame i a → AtomSame i (number_or d a)
    unfolding number_or
    number_same (Ok None) a h k = k
    number_same (Ok (Some (n, j))) a h k = h
    number_same (Err why) a h k = tt

    atom_same : AtomSame i (atom_at s i)
    unfolding atom_at
    atom_same = number_same (digits_at s i) (sign_atom i (byte_at s i) (byte_at s (i + 1))) (digits_same i) sign_same

  -- ends and ranges -------------------------------------------------------------------------------------------------------------------------------

  abbrev EndingSame : ℕ → Result RangeEnding Refusal → Type 0
  EndingSame i (Ok l) = f i ≡ f l.to
  EndingSame i (Err why) = Unit {0}

  with_same : (i : ℕ) (a : RangeEndingType) (j : ℕ) (r : Result ℕ Refusal) → f i ≡ f j → OffsetsSame j r → EndingSame i (with_offsets a j r)
  unfolding with_offsets
  with_same i a j (Ok k) e h = e ∙ h
  with_same i a j (Err why) e h = tt

  after_same : (i : ℕ) (a : AtomRead) → AtomSame i a → EndingSame i (after_atom s i a)
  unfolding after_atom
  after_same i (Ok None) h = with_same i RangeEndingType.Unspecified i (offsets_at s i) refl (offsets_same i)
  after_same i (Ok (Some (a, j))) h = with_same i a j (offsets_at s j) h (offsets_same j)
  after_same i (Err why) h = tt

  ending_same : (i : ℕ) → EndingSame i (ending_at s i)
  unfolding ending_at
  ending_same i = after_same i (atom_at s i) (atom_same i)

  abbrev pub RangeSame : ℕ → RangeRead → Type 0
  RangeSame i (Ok None) = Unit {0}
  RangeSame i (Ok (Some (g, j))) = f i ≡ f j
  RangeSame i (Err why) = Unit {0}

  double_same : (i : ℕ) (l : RangeEnding) (p : RangeSearchInit) (m : ℕ) (r : Result RangeEnding Refusal) → f i ≡ f m → EndingSame m r → RangeSame i (double l p r)
  unfolding double
  double_same i l p m (Ok x) e h = e ∙ h
  double_same i l p m (Err why) e h = tt

  first_same : (i : ℕ) (r : Result RangeEnding Refusal) → EndingSame i r → RangeSame i (after_first s i r)
  unfolding after_first
  first_same i (Err why) h = tt
  first_same i (Ok l) h = go (eqb (byte_at s l.to) 0x2C) (eqb (byte_at s l.to) 0x3B) (eqb l.to i) refl refl
    where
      two : (c : ℕ) (p : RangeSearchInit) → 0 < c → c < 0x80 → eqb (byte_at s l.to) c ≡ true → RangeSame i (double l p (ending_at s (l.to + 1)))
      two c p z k q = double_same i l p (l.to + 1) (ending_at s (l.to + 1)) (h ∙ byte_same l.to c z k (eqb-true (byte_at s l.to) c q)) (ending_same (l.to + 1))

      go : (t u v : Bool) → eqb (byte_at s l.to) 0x2C ≡ t → eqb (byte_at s l.to) 0x3B ≡ u →
          RangeSame i (cond t (double l RangeSearchInit.Cursor (ending_at s (l.to + 1)))
          (cond u (double l RangeSearchInit.Start (ending_at s (l.to + 1))) (cond v (Ok None) (Ok (Some (RangeSpec.Single l, l.to))))))
      go true u v e g = two 0x2C RangeSearchInit.Cursor (omega arith) (omega arith) e
      go false true v e g = two 0x3B RangeSearchInit.Start (omega arith) (omega arith) g
      go false false true e g = tt
      go false false false e g = h

  pub range_same : (i : ℕ) → RangeSame i (range_at s i)
  unfolding range_at
  range_same i = first_same i (ending_at s i) (ending_same i)

  -- words ------------------------------------------------------------------------------------------------------------------------------------------

  abbrev pub WordSame : ℕ → Option (ℕ × ℕ) → Type 0
  WordSame i (Some (j, k)) = (f i ≡ f j) × (f i ≡ f k)
  WordSame i None = Unit {0}

  pub word_same : (i : ℕ) → WordSame i (word_at s i)
  unfolding word_at
  word_same i = go (eqb (byte_at s i) 0x21) (eqb (run_at is_word s i) i) (leb (length s) i) (eqb (byte_at s i) 0x0A) refl refl
    where
      go : (a b c d : Bool) → eqb (byte_at s i) 0x21 ≡ a → eqb (byte_at s i) 0x0A ≡ d → WordSame i (cond a (Some (i + 1, i + 1))
          (cond b (cond c (Some (i, i)) (cond d (Some (i, i + 1)) None)) (Some (run_at is_word s i, run_at is_word s i))))
      go true b c d p q = let e = byte_same i 0x21 (omega arith) (omega arith) (eqb-true (byte_at s i) 0x21 p) in (e, e)
      go false true true d p q = (refl, refl)
      go false true false true p q = (refl, byte_same i 0x0A (omega arith) (omega arith) (eqb-true (byte_at s i) 0x0A q))
      go false true false false p q = tt
      go false false c d p q = let e = run_same is_word (below is_word no_word) i in (e, e)
