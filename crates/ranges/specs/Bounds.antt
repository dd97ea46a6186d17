-- Positions stay within the text: what each reader answers lies from its start on, and not past the end.
-- Assumes nothing.
use Rattle.std.specs.Prelude.{◌≡◌, Bool, cond, List, [], ◌∷◌, ℕ, zero, suc, ◌+◌, ◌-◌, ◌^◌, ◌<◌, ◌≤◌, eqb, ltb, length, drop, Result, Ok, Err, Some, None}
use Rattle.std.proofs.Math.Path.{refl}
use Rattle.std.proofs.Common.{subst, arith, eqb-true, length-drop}
use Rattle.std.proofs.Math.Bool.{true, false}
use Rattle.scan.specs.Bytes.{is_mark, is_digit}
use Rattle.scan.specs.Scan.{run_from, value_from, digits_from, digits_at, byte_at, Decimal}
use Rattle.ranges.specs.Range.{is_sign, escaped_atom, mark_atom, sign_atom, number_or, atom_at, offsets_from, offsets_at, with_offsets, after_atom, ending_at, double, after_first, range_at, AtomRead, RangeRead}
use Rattle.scan.specs.RunLaws.{run_le, run_within, byte_inside}
use Rattle.ranges.specs.declared.range.RangeEndingType.{RangeEndingType}
use Rattle.ranges.specs.declared.range.RangeEnding.{RangeEnding}
use Rattle.ranges.specs.declared.range.RangeSearchInit.{RangeSearchInit}
use Rattle.ranges.specs.declared.range.RangeSpec.{RangeSpec}
use Rattle.limits.specs.declared.refusal.Refusal.{Refusal}

-- i ≤ j ≤ e
pub record In (i e j : ℕ) : Type 0 where
  pub from : i ≤ j
  pub to : j ≤ e

-- digits
abbrev pub DecimalIn : ℕ → ℕ → Decimal → Type 0
DecimalIn i e (Ok None) = Unit {0}
DecimalIn i e (Ok (Some (n, j))) = In i e j
DecimalIn i e (Err why) = Unit {0}

pub digits_in : (i : ℕ) (xs : List ℕ) → DecimalIn i (i + length xs) (digits_from i xs)
unfolding digits_from
digits_in i xs = go (eqb (run_from is_digit i xs) i) (ltb (value_from 0 xs) (2 ^ 64))
  where
    go : (t u : Bool) → DecimalIn i (i + length xs) (cond t (Ok None) (cond u (Ok (Some (value_from 0 xs, run_from is_digit i xs))) (Err Refusal.NumberTooLarge)))
    go true u = tt
    go false true = record { from = run_le is_digit i xs; to = run_within is_digit i xs }
    go false false = tt

pub digits_at_in : (s : List ℕ) (i : ℕ) → i ≤ length s → DecimalIn i (length s) (digits_at s i)
unfolding digits_at
digits_at_in s i h =
    let e : i + length (drop i s) ≡ length s = omega (arith, length-drop i s) in
    subst (λ (n : ℕ). DecimalIn i n (digits_from i (drop i s))) e (digits_in i (drop i s))

-- offsets, clause by clause
module _ (i b : ℕ) (bs : List ℕ) where
  pub off_stop : is_sign b ≡ false → offsets_from 0 i (b ∷ bs) ≡ Ok i
  unfolding offsets_from
  off_stop t = rw (t, offsets_from)

  pub off_bare : is_sign b ≡ true → digits_from (i + 1) bs ≡ Ok None → offsets_from 0 i (b ∷ bs) ≡ offsets_from 0 (i + 1) bs
  unfolding offsets_from
  off_bare t d = rw (t, d, offsets_from)

  pub off_value : (n j : ℕ) → is_sign b ≡ true → digits_from (i + 1) bs ≡ Ok (Some (n, j)) → offsets_from 0 i (b ∷ bs) ≡ offsets_from (j - (i + 1)) (i + 1) bs
  unfolding offsets_from
  off_value n j t d = rw (t, d, offsets_from)

  pub off_large : {why : Refusal} → is_sign b ≡ true → digits_from (i + 1) bs ≡ Err why → offsets_from 0 i (b ∷ bs) ≡ Err why
  unfolding offsets_from
  off_large t d = rw (t, d, offsets_from)

  -- the bytes of digits that are skipped are there
  pub value_room : (n j : ℕ) → digits_from (i + 1) bs ≡ Ok (Some (n, j)) → j - (i + 1) ≤ length bs
  value_room n j d = let h = subst (DecimalIn (i + 1) (i + 1 + length bs)) d (digits_in (i + 1) bs) in omega arith

abbrev pub OffsetsIn : ℕ → ℕ → Result ℕ Refusal → Type 0
OffsetsIn i e (Ok j) = In i e j
OffsetsIn i e (Err why) = Unit {0}

offsets_later : (i n : ℕ) (r : Result ℕ Refusal) → OffsetsIn (i + 1) (i + 1 + n) r → OffsetsIn i (i + suc n) r
offsets_later i n (Ok j) h = record { from = omega arith; to = omega arith }
offsets_later i n (Err why) h = tt

offsets_in : (xs : List ℕ) (k i : ℕ) → k ≤ length xs → OffsetsIn i (i + length xs) (offsets_from k i xs)
unfolding offsets_from
offsets_in [] zero i h = record { from = omega arith; to = omega arith }
offsets_in [] (suc k) i h = record { from = omega arith; to = omega arith }
offsets_in (b ∷ bs) (suc k) i h = offsets_later i (length bs) (offsets_from k (i + 1) bs) (offsets_in bs k (i + 1) (omega arith))
offsets_in (b ∷ bs) zero i h = go (is_sign b) (digits_from (i + 1) bs) refl refl (λ k g. offsets_in bs k (i + 1) g)
  where
    go : (t : Bool) (d : Decimal) → is_sign b ≡ t → digits_from (i + 1) bs ≡ d → ((k : ℕ) → k ≤ length bs → OffsetsIn (i + 1) (i + 1 + length bs) (offsets_from k (i + 1) bs)) →
        OffsetsIn i (i + suc (length bs)) (offsets_from 0 i (b ∷ bs))
    go false d e f ih = rw (off_stop i b bs e) (record { from = omega arith; to = omega arith })
    go true (Ok None) e f ih = rw (off_bare i b bs e f) (offsets_later i (length bs) (offsets_from 0 (i + 1) bs) (ih 0 (omega arith)))
    go true (Ok (Some (n, j))) e f ih = rw (off_value i b bs n j e f) (offsets_later i (length bs) (offsets_from (j - (i + 1)) (i + 1) bs) (ih (j - (i + 1)) (value_room i b bs n j f)))
    go true (Err why) e f ih = rw (off_large i b bs e f) tt

pub offsets_at_in : (s : List ℕ) (i : ℕ) → i ≤ length s → OffsetsIn i (length s) (offsets_at s i)
unfolding offsets_at
offsets_at_in s i h =
    let e : i + length (drop i s) ≡ length s = omega (arith, length-drop i s) in
    subst (λ (n : ℕ). OffsetsIn i n (offsets_from 0 i (drop i s))) e (offsets_in (drop i s) 0 i (omega arith))

-- atoms
abbrev pub AtomIn : ℕ → ℕ → AtomRead → Type 0
AtomIn i e (Ok None) = Unit {0}
AtomIn i e (Ok (Some (a, j))) = In i e j
AtomIn i e (Err why) = Unit {0}

-- a test on a byte, and what stands in each arm
byte_test : (i e b c : ℕ) (x y : AtomRead) → (b ≡ c → AtomIn i e x) → AtomIn i e y → AtomIn i e (cond (eqb b c) x y)
byte_test i e b c x y f g = go (eqb b c) refl
  where
    go : (t : Bool) → eqb b c ≡ t → AtomIn i e (cond t x y)
    go true q = f (eqb-true b c q)
    go false q = g

mark_byte : (d : ℕ) → is_mark d ≡ true → 0 < d
unfolding is_mark
mark_byte zero h = let z : ◌≡◌ {A = ℕ} 0 1 = cc in absurd (omega arith)
mark_byte (suc d) h = omega arith

module _ (s : List ℕ) (i : ℕ) (h : i ≤ length s) where
  one_in : (c : ℕ) → 0 < c → byte_at s i ≡ c → In i (length s) (i + 1)
  one_in c k q = record { from = omega arith; to = omega (arith, byte_inside s i c q k) }

  two_in : (c : ℕ) → 0 < c → byte_at s (i + 1) ≡ c → In i (length s) (i + 2)
  two_in c k q = record { from = omega arith; to = omega (arith, byte_inside s (i + 1) c q k) }

  escaped_in : AtomIn i (length s) (escaped_atom i (byte_at s (i + 1)))
  unfolding escaped_atom
  escaped_in =
      byte_test i (length s) (byte_at s (i + 1)) 0x2F _ _ (two_in 0x2F (omega arith))
      (byte_test i (length s) (byte_at s (i + 1)) 0x3F _ _ (two_in 0x3F (omega arith))
      (byte_test i (length s) (byte_at s (i + 1)) 0x26 _ _ (two_in 0x26 (omega arith)) tt))

  mark_in : AtomIn i (length s) (mark_atom i (byte_at s (i + 1)))
  unfolding mark_atom
  mark_in = go (is_mark (byte_at s (i + 1))) refl
    where
      go : (t : Bool) → is_mark (byte_at s (i + 1)) ≡ t → AtomIn i (length s) (cond t (Ok (Some (RangeEndingType.Mark (byte_at s (i + 1)), i + 2))) (Ok None))
      go true q = two_in (byte_at s (i + 1)) (mark_byte (byte_at s (i + 1)) q) refl
      go false q = tt

  sign_in : AtomIn i (length s) (sign_atom i (byte_at s i) (byte_at s (i + 1)))
  unfolding sign_atom
  sign_in =
      byte_test i (length s) (byte_at s i) 0x2E _ _ (one_in 0x2E (omega arith))
      (byte_test i (length s) (byte_at s i) 0x25 _ _ (one_in 0x25 (omega arith))
      (byte_test i (length s) (byte_at s i) 0x24 _ _ (one_in 0x24 (omega arith))
      (byte_test i (length s) (byte_at s i) 0x5C _ _ (λ q. escaped_in)
      (byte_test i (length s) (byte_at s i) 0x27 _ _ (λ q. mark_in) tt))))

number_in : (i e : ℕ) (d : Decimal) (a : AtomRead) → DecimalIn i e d → AtomIn i e a → AtomIn i e (number_or d a)
unfolding number_or
number_in i e (Ok None) a h k = k
number_in i e (Ok (Some (n, j))) a h k = h
number_in i e (Err why) a h k = tt

pub atom_at_in : (s : List ℕ) (i : ℕ) → i ≤ length s → AtomIn i (length s) (atom_at s i)
unfolding atom_at
atom_at_in s i h = number_in i (length s) (digits_at s i) _ (digits_at_in s i h) (sign_in s i h)

-- ends
pub record EndIn (i e : ℕ) (l : RangeEnding) : Type 0 where
  pub atom_end : i ≤ l.from
  pub offsets_end : l.from ≤ l.to
  pub inside : l.to ≤ e

abbrev pub EndingIn : ℕ → ℕ → Result RangeEnding Refusal → Type 0
EndingIn i e (Ok l) = EndIn i e l
EndingIn i e (Err why) = Unit {0}

with_in : (i e : ℕ) (a : RangeEndingType) (j : ℕ) (r : Result ℕ Refusal) → i ≤ j → OffsetsIn j e r → EndingIn i e (with_offsets a j r)
unfolding with_offsets
with_in i e a j (Ok k) h g = record { atom_end = h; offsets_end = g.from; inside = g.to }
with_in i e a j (Err why) h g = tt

after_in : (s : List ℕ) (i : ℕ) (a : AtomRead) → i ≤ length s → AtomIn i (length s) a → EndingIn i (length s) (after_atom s i a)
unfolding after_atom
after_in s i (Ok None) h k = with_in i (length s) _ i (offsets_at s i) (omega arith) (offsets_at_in s i h)
after_in s i (Ok (Some (a, j))) h k = with_in i (length s) a j (offsets_at s j) k.from (offsets_at_in s j k.to)
after_in s i (Err why) h k = tt

pub ending_at_in : (s : List ℕ) (i : ℕ) → i ≤ length s → EndingIn i (length s) (ending_at s i)
unfolding ending_at
ending_at_in s i h = after_in s i (atom_at s i) h (atom_at_in s i h)

-- ranges: of a range of one end, where its offsets are
abbrev pub EndsIn : ℕ → ℕ → RangeSpec → Type 0
EndsIn i e (RangeSpec.Single l) = EndIn i e l
EndsIn i e (RangeSpec.Double l r p) = Unit {0}

abbrev pub RangeIn : ℕ → ℕ → RangeRead → Type 0
RangeIn i e (Ok None) = Unit {0}
RangeIn i e (Ok (Some (g, j))) = In i e j × EndsIn i e g
RangeIn i e (Err why) = Unit {0}

double_in : (i e : ℕ) (l : RangeEnding) (p : RangeSearchInit) (m : ℕ) (r : Result RangeEnding Refusal) → i ≤ m → EndingIn m e r → RangeIn i e (double l p r)
unfolding double
double_in i e l p m (Ok x) h k = (record { from = omega arith; to = k.inside }, tt)
double_in i e l p m (Err why) h k = tt

first_in : (s : List ℕ) (i : ℕ) (r : Result RangeEnding Refusal) → EndingIn i (length s) r → RangeIn i (length s) (after_first s i r)
unfolding after_first
first_in s i (Err why) h = tt
first_in s i (Ok l) h = go (eqb (byte_at s l.to) 0x2C) (eqb (byte_at s l.to) 0x3B) (eqb l.to i) refl refl
  where
    two : (c : ℕ) (p : RangeSearchInit) → 0 < c → byte_at s l.to ≡ c → RangeIn i (length s) (double l p (ending_at s (l.to + 1)))
    two c p z q = double_in i (length s) l p (l.to + 1) (ending_at s (l.to + 1)) (omega arith) (ending_at_in s (l.to + 1) (omega (arith, byte_inside s l.to c q z)))

    go : (t u v : Bool) → eqb (byte_at s l.to) 0x2C ≡ t → eqb (byte_at s l.to) 0x3B ≡ u →
        RangeIn i (length s)
        (cond t (double l RangeSearchInit.Cursor (ending_at s (l.to + 1)))
        (cond u (double l RangeSearchInit.Start (ending_at s (l.to + 1))) (cond v (Ok None) (Ok (Some (RangeSpec.Single l, l.to))))))
    go true u v e f = two 0x2C RangeSearchInit.Cursor (omega arith) (eqb-true (byte_at s l.to) 0x2C e)
    go false true v e f = two 0x3B RangeSearchInit.Start (omega arith) (eqb-true (byte_at s l.to) 0x3B f)
    go false false true e f = tt
    go false false false e f = (record { from = omega arith; to = h.inside }, h)

pub range_at_in : (s : List ℕ) (i : ℕ) → i ≤ length s → RangeIn i (length s) (range_at s i)
unfolding range_at
range_at_in s i h = first_in s i (ending_at s i) (ending_at_in s i h)
