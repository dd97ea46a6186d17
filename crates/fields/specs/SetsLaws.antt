-- Laws of bytes that are written into others: which bytes and parts of the whole stay, and what the written part then is; and of a number
-- in two bytes, written and read.
-- Assumes nothing.
use Rattle.std.specs.Prelude.{◌≡◌, refl, List, [], ◌∷◌, ◌++◌, ℕ, zero, suc, ◌+◌, ◌-◌, ◌*◌, ◌/◌, ◌%◌, ◌<◌, ◌≤◌, length, take, drop}
use Rattle.std.proofs.Common.{sym, ◌∙◌, ap, append_assoc, length-drop, take-append-drop, length-take-le, take-add, drop_at, drop-set-lt}
use Rattle.std.proofs.Math.Numerals.{add-one}
use native.Mathlib.Omega.{arith}
use Rattle.std.proofs.Math.ListN.{set, length-set}
use Rattle.std.proofs.lemmas.List.Edits.{sets, sets-eq}
use Rattle.std.proofs.Math.Seq.{take-append_seam, get_or-set_same, get_or-set_other, set-get_or}
use Rattle.scan.specs.Scan.{byte_at, part_of}
use Rattle.fields.specs.Field.{two_at, two}

-- bytes outside ------------------------------------------------------------------------------------------------------------------------------

pub byte_before : (s : List ℕ) (at : ℕ) (v : List ℕ) (i : ℕ) → i < at → byte_at (sets s at v) i ≡ byte_at s i
byte_before s at [] i h = refl
byte_before s at (x ∷ v) i h = byte_before (set s at x) (suc at) v i (omega arith) ∙ get_or-set_other s at i x 0 (λ e. omega arith)

pub byte_behind : (s : List ℕ) (at : ℕ) (v : List ℕ) (i : ℕ) → at + length v ≤ i → byte_at (sets s at v) i ≡ byte_at s i
byte_behind s at [] i h = refl
byte_behind s at (x ∷ v) i h = byte_behind (set s at x) (suc at) v i (omega arith) ∙ get_or-set_other s at i x 0 (λ e. omega arith)

-- and those that are written
pub byte_written : (s : List ℕ) (at : ℕ) (v : List ℕ) (i : ℕ) → at + length v ≤ length s → i < length v → byte_at (sets s at v) (at + i) ≡ byte_at v i
byte_written s at [] i h k = absurd (omega arith)
byte_written s at (x ∷ v) zero h k =
    let e : at + 0 ≡ at = omega arith in
    ap (byte_at (sets (set s at x) (suc at) v)) e ∙ byte_before (set s at x) (suc at) v at (omega arith) ∙ get_or-set_same s at x 0 (omega arith)
byte_written s at (x ∷ v) (suc i) h k =
    let e : at + suc i ≡ suc at + i = omega arith in
    ap (byte_at (sets (set s at x) (suc at) v)) e ∙ byte_written (set s at x) (suc at) v i (omega (arith, length-set s at x)) (omega arith)

-- parts --------------------------------------------------------------------------------------------------------------------------------------

-- behind it
drop_behind : (s : List ℕ) (at : ℕ) (v : List ℕ) (a : ℕ) → at + length v ≤ a → drop a (sets s at v) ≡ drop a s
drop_behind s at [] a h = refl
drop_behind s at (x ∷ v) a h = drop_behind (set s at x) (suc at) v a (omega arith) ∙ drop-set-lt a s at x (omega arith)

pub part_behind : (s : List ℕ) (at : ℕ) (v : List ℕ) (a e : ℕ) → at + length v ≤ a → part_of (sets s at v) a e ≡ part_of s a e
part_behind s at v a e h = ap (take (e - a)) (drop_behind s at v a h)

-- what is written
pub part_written : (s : List ℕ) (at : ℕ) (v : List ℕ) → at + length v ≤ length s → part_of (sets s at v) at (at + length v) ≡ v
part_written s at v h =
    let n : at + length v - at ≡ length v = omega arith in
    let rest = drop (at + length v) s in
    ap (λ (k : ℕ). take k (drop at (sets s at v))) n
    ∙ ap (λ u. take (length v) (drop at u)) (sets-eq v s at h ∙ append_assoc (take at s) v rest)
    ∙ ap (take (length v)) (drop_at (take at s) (v ++ rest) at (length-take-le at s (omega arith)))
    ∙ take-append_seam v rest

-- what is there, written again, changes nothing
pub sets_part : (s : List ℕ) (at e : ℕ) → at ≤ e → e ≤ length s → sets s at (part_of s at e) ≡ s
sets_part s at e h k =
    let n = e - at in
    let v = take n (drop at s) in
    let l : length v ≡ n = length-take-le n (drop at s) (omega (arith, length-drop at s)) in
    sets-eq v s at (omega arith)
    ∙ ap (λ (j : ℕ). take at s ++ v ++ drop (at + j) s) l
    ∙ ap (λ u. u ++ drop (at + n) s) (sym (take-add at n s))
    ∙ take-append-drop (at + n) s

-- a number in two bytes ------------------------------------------------------------------------------------------------------------------------

module _ (b : List ℕ) (i : ℕ) where
  -- it is read as it was written
  pub two_read : (n : ℕ) → i + 2 ≤ length b → two_at (sets b i (two n)) i ≡ n
  unfolding two_at
  two_read n h =
      let c = set b i (n % 256) in
      let low : byte_at (set c (suc i) (n / 256)) i ≡ n % 256 = get_or-set_other c (suc i) i (n / 256) 0 (λ e. omega arith) ∙ get_or-set_same b i (n % 256) 0 (omega arith) in
      let high : byte_at (set c (suc i) (n / 256)) (suc i) ≡ n / 256 = get_or-set_same c (suc i) (n / 256) 0 (omega (arith, length-set b i (n % 256))) in
      rw (add-one i, low, high) (omega arith)

  -- and written as it was read
  pub two_again : byte_at b i < 256 → sets b i (two (two_at b i)) ≡ b
  unfolding two_at
  two_again h =
      let x = byte_at b i in
      let y = byte_at b (i + 1) in
      let low : (x + 256 * y) % 256 ≡ x = omega arith in
      let high : (x + 256 * y) / 256 ≡ y = omega arith in
      rw (low, high, set-get_or b i 0, add-one i, set-get_or b (suc i) 0)

-- it is that of its bytes
pub two_same : (a b : List ℕ) (i : ℕ) → byte_at a i ≡ byte_at b i → byte_at a (i + 1) ≡ byte_at b (i + 1) → two_at a i ≡ two_at b i
unfolding two_at
two_same a b i e f = rw (e, f)
