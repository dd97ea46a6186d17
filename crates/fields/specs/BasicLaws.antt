-- The three simple fields are lawful.
-- Assumes nothing.
use Rattle.std.specs.Prelude.{◌≡◌, refl, Bool, true, false, cond, ◌&&◌, List, [], ◌∷◌, ℕ, ◌+◌, ◌-◌, ◌<◌, ◌≤◌, eqb, leb, ltb, length, drop}
use Rattle.std.proofs.Common.{sym, ◌∙◌, ap, arith, length-take, length-drop, ext_get_or, get_or-take, get_or-drop, get_or-set_same, eqb-true, leb-true, ltb-true, eq-eqb, le-leb, lt-ltb}
use Rattle.std.proofs.Math.Decide.{dec_lt}
use Rattle.std.proofs.lemmas.List.Edits.{sets}
use Rattle.std.proofs.Math.Seq.{length-sets}
use Rattle.std.proofs.lemmas.List.{set-get_or}
use Rattle.scan.specs.Scan.{byte_at, part_of}
use Rattle.scan.specs.PartLaws.{part_length}
use Rattle.fields.specs.BoolLaws.{and_both, and_of}
use Rattle.fields.specs.Field.{Bytes, SameIn, Lawful, byte_field, two_at, two, two_field, fit, bytes_field}
use Rattle.fields.specs.SetsLaws.{byte_before, byte_behind, byte_written, part_written, sets_part, two_read, two_again, two_same}

-- bytes that are written at a place, and the others ------------------------------------------------------------------------------------------------

-- the test of the places that v takes from p on
abbrev taken : ℕ → ℕ → ℕ → Bool
taken p n i = leb p i && ltb i (p + n)

taken_told : (p n i : ℕ) → taken p n i ≡ true → (p ≤ i) × (i < p + n)
taken_told p n i h = let q = and_both (leb p i) (ltb i (p + n)) h in (leb-true p i q.0, ltb-true i (p + n) q.1)

taken_is : (p n i : ℕ) → p ≤ i → i < p + n → taken p n i ≡ true
taken_is p n i h k = and_of (le-leb p i h) (lt-ltb i (p + n) k)

-- a byte that is not among them stays
keeps_sets : (b v : List ℕ) (p i : ℕ) → taken p (length v) i ≡ false → byte_at (sets b p v) i ≡ byte_at b i
keeps_sets b v p i h = go (dec_lt i p) (dec_lt i (p + length v))
  where
    go : Dec (i < p) → Dec (i < p + length v) → byte_at (sets b p v) i ≡ byte_at b i
    go (yes k) d = byte_before b p v i k
    go (no k) (no j) = byte_behind b p v i (omega arith)
    go (no k) (yes j) =
        let q : true ≡ false = sym (taken_is p (length v) i (omega arith) j) ∙ h in
        let z : ◌≡◌ {A = ℕ} 0 1 = cc in
        absurd (omega arith)

-- one that is among them is what is written
fixed_sets : (a b v : List ℕ) (p i : ℕ) → p + length v ≤ length a → p + length v ≤ length b → taken p (length v) i ≡ true → byte_at (sets a p v) i ≡ byte_at (sets b p v) i
fixed_sets a b v p i x y h =
    let q = taken_told p (length v) i h in
    let e : i ≡ p + (i - p) = omega (arith, q.0) in
    let k : i - p < length v = omega (arith, q.0, q.1) in
    ap (byte_at (sets a p v)) e ∙ byte_written a p v (i - p) x k ∙ sym (ap (byte_at (sets b p v)) e ∙ byte_written b p v (i - p) y k)

-- one byte --------------------------------------------------------------------------------------------------------------------------------------

pub byte_lawful : (p : ℕ) → Lawful (byte_field p)
unfolding byte_field
byte_lawful p = record {
  span = omega arith;
  size = λ n b. length-sets b p (n ∷ []);
  looks = λ a b e s. (refl, s p (omega arith) (omega arith));
  formed = λ b z w t. le-leb (byte_at b p) 255 (omega (arith, w p));
  again = λ b z w t. set-get_or b p 0;
  back = λ n b z k. (refl, get_or-set_same b p n 0 (omega arith));
  inside = λ n k i u. taken_told p 1 i u;
  keeps = λ n b k i u. keeps_sets b (n ∷ []) p i u;
  fixed = λ n a b y z k i u. fixed_sets a b (n ∷ []) p i y z u;
  alike = λ a b z w e t u. (refl, sym (u p (taken_is p 1 p (omega arith) (omega arith))));
}

-- a number in two bytes ---------------------------------------------------------------------------------------------------------------------------

two_small : (b : List ℕ) (p : ℕ) → Bytes b → two_at b p ≤ 65535
unfolding two_at
two_small b p w = omega (arith, w p, w (p + 1))

pub two_lawful : (p : ℕ) → Lawful (two_field p)
unfolding two_field
two_lawful p = record {
  span = omega arith;
  size = λ n b. length-sets b p (two n);
  looks = λ a b e s. (refl, two_same a b p (s p (omega arith) (omega arith)) (s (p + 1) (omega arith) (omega arith)));
  formed = λ b z w t. le-leb (two_at b p) 65535 (two_small b p w);
  again = λ b z w t. two_again b p (w p);
  back = λ n b z k. (refl, two_read b p n (omega arith));
  inside = λ n k i u. taken_told p 2 i u;
  keeps = λ n b k i u. keeps_sets b (two n) p i u;
  fixed = λ n a b y z k i u. fixed_sets a b (two n) p i y z u;
  alike = λ a b z w e t u. (refl, sym (two_same a b p (u p (taken_is p 2 p (omega arith) (omega arith))) (u (p + 1) (taken_is p 2 (p + 1) (omega arith) (omega arith)))));
}

-- some bytes ----------------------------------------------------------------------------------------------------------------------------------------

-- parts that are the same byte by byte
part_same : (a b : List ℕ) (f t : ℕ) → length a ≡ length b → SameIn f t a b → part_of a f t ≡ part_of b f t
part_same a b f t e h = ext_get_or 0 (part_of a f t) (part_of b f t) (simp (length-take, length-drop) (rw e)) at
  where
    at : (i : ℕ) → i < length (part_of a f t) → byte_at (part_of a f t) i ≡ byte_at (part_of b f t) i
    at i k =
        let j : i < t - f = omega (arith, length-take (t - f) (drop f a)) in
        get_or-take (t - f) (drop f a) i 0 j
        ∙ get_or-drop f a i 0
        ∙ h (f + i) (omega arith) (omega arith)
        ∙ sym (get_or-take (t - f) (drop f b) i 0 j ∙ get_or-drop f b i 0)

-- a number that fits
pub fit_is : (n room : ℕ) → leb n room ≡ true → fit n room ≡ n
unfolding fit
fit_is n room h = rw h

fit_most : (n room : ℕ) → fit n room ≤ room
unfolding fit
fit_most n room = go (leb n room) refl
  where
    go : (t : Bool) → leb n room ≡ t → cond t n 0 ≤ room
    go true h = leb-true n room h
    go false h = omega arith

-- as many as may be written
fits : (n room : ℕ) (v : List ℕ) → leb n room && eqb (length v) n ≡ true → length v ≤ room
fits n room v k =
    let q = and_both (leb n room) (eqb (length v) n) k in
    omega (arith, leb-true n room q.0, eqb-true (length v) n q.1)

pub bytes_lawful : (p room n : ℕ) → Lawful (bytes_field p room n)
unfolding bytes_field
bytes_lawful p room n = record {
  span = omega arith;
  size = λ v b. length-sets b p v;
  looks = λ a b e s. (refl, part_same a b p (p + fit n room) e (λ i u v. s i u (omega (arith, fit_most n room))));
  formed = λ b z w t.
      let f = fit_is n room t in
      and_of t (eq-eqb (length (part_of b p (p + fit n room))) n (part_length b p (p + fit n room) (omega (arith, fit_most n room)) ∙ omega (arith, f)));
  again = λ b z w t. sets_part b p (p + fit n room) (omega arith) (omega (arith, fit_most n room));
  back = λ v b z k.
      let q = and_both (leb n room) (eqb (length v) n) k in
      let e = eqb-true (length v) n q.1 in
      (q.0, ap (λ (m : ℕ). part_of (sets b p v) p (p + m)) (fit_is n room q.0 ∙ sym e) ∙ part_written b p v (omega (arith, leb-true n room q.0)));
  inside = λ v k i u. let q = taken_told p (length v) i u in (q.0, omega (arith, q.1, fits n room v k));
  keeps = λ v b k i u. keeps_sets b v p i u;
  fixed = λ v a b y z k i u. fixed_sets a b v p i (omega (arith, fits n room v k)) (omega (arith, fits n room v k)) u;
  alike = λ a b z w e t u.
      let l = part_length a p (p + fit n room) (omega (arith, fit_most n room)) in
      let s : SameIn p (p + fit n room) a b = λ i j k. u i (taken_is p (length (part_of a p (p + fit n room))) i j (omega (arith, l))) in
      (t, sym (part_same a b p (p + fit n room) e s));
}
