-- Laws of bytes written into others: writes apart may change places, writes side by side are one, what is there already need not be written.
-- Assumes nothing.
use Rattle.std.specs.Prelude.{◌≡◌, refl, List, [], ◌∷◌, ◌++◌, ℕ, suc, ◌+◌, ◌-◌, ◌<◌, ◌≤◌, length, take, drop, set}
use Rattle.std.proofs.Common.{sym, ◌∙◌, ap, arith, length-append, get_or-take, get_or-drop, length-take-le, take_all}
use Rattle.std.proofs.lemmas.List.Edits.{sets}
use Rattle.std.proofs.Math.Seq.{length-sets, split_at, take-append_seam, drop-append_seam}
use Rattle.std.proofs.lemmas.List.{set_comm, set_split}
use Rattle.scan.specs.Scan.{byte_at, part_of}
use Rattle.scan.specs.RunLaws.{drop_step}
use Rattle.scan.specs.PartLaws.{part_length, part_part}
use Rattle.fields.specs.SetsLaws.{byte_before, part_behind, sets_part}
use Rattle.store.specs.Splice.{sets_append}

-- one byte and others apart from it, in either order
set_sets : (s : List ℕ) (i x at : ℕ) (v : List ℕ) → i < at → set (sets s at v) i x ≡ sets (set s i x) at v
set_sets s i x at [] h = refl
set_sets s i x at (y ∷ v) h = set_sets (set s at y) i x (suc at) v (omega arith) ∙ ap (λ u. sets u (suc at) v) (set_comm s at i y x (λ e. omega arith))

-- two writes apart, in either order
sets_apart : (s : List ℕ) (a : ℕ) (u : List ℕ) (e : ℕ) (v : List ℕ) → a + length u ≤ e → sets (sets s e v) a u ≡ sets (sets s a u) e v
sets_apart s a [] e v h = refl
sets_apart s a (x ∷ u) e v h = ap (λ r. sets r (suc a) u) (set_sets s a x e v (omega arith)) ∙ sets_apart (set s a x) (suc a) u e v (omega arith)

-- two side by side are one, whichever is written first
sets_back : (s : List ℕ) (at : ℕ) (u v : List ℕ) → sets (sets s (at + length u) v) at u ≡ sets s at (u ++ v)
sets_back s at u v = sets_apart s at u (at + length u) v (omega arith) ∙ sets_append s at u v

pub sets_moved : {r t : List ℕ} (s : List ℕ) (at : ℕ) (u v : List ℕ) → r ≡ sets s (at + length u) v → t ≡ sets r at u → t ≡ sets s at (u ++ v)
sets_moved s at u v e f = f ∙ ap (λ x. sets x at u) e ∙ sets_back s at u v

-- what is there already ---------------------------------------------------------------------------------------------------------------------------

-- v stands at `at` in s
pub record There (s : List ℕ) (at : ℕ) (v : List ℕ) : Type 0 where
  pub fits : at + length v ≤ length s
  pub same : part_of s at (at + length v) ≡ v

pub there_part : (s : List ℕ) (at e : ℕ) → at ≤ e → e ≤ length s → There s at (part_of s at e)
there_part s at e h k =
    let n : at + length (part_of s at e) ≡ e = omega (arith, part_length s at e k) in
    record { fits = omega arith; same = ap (λ (j : ℕ). part_of s at j) n }

pub there_byte : {s : List ℕ} {at : ℕ} {v : List ℕ} (j : ℕ) → There s at v → j < length v → byte_at v j ≡ byte_at s (at + j)
there_byte {s} {at} {v} j h k =
    ap (λ u. byte_at u j) (sym h.same) ∙ get_or-take (at + length v - at) (drop at s) j 0 (omega arith) ∙ get_or-drop at s j 0

-- a write before it leaves it
pub there_behind : {s : List ℕ} {at : ℕ} {v : List ℕ} (e : ℕ) (u : List ℕ) → There s at v → e + length u ≤ at → There (sets s e u) at v
there_behind {s} {at} {v} e u h k = record {
  fits = omega (arith, h.fits, length-sets s e u);
  same = part_behind s e u at (at + length v) k ∙ h.same;
}

-- of two side by side each is there
module _ {s : List ℕ} {at : ℕ} (u v : List ℕ) (h : There s at (u ++ v)) where
  whole : part_of s at (at + (length u + length v)) ≡ u ++ v
  whole = ap (λ (n : ℕ). part_of s at (at + n)) (sym (length-append u v)) ∙ h.same

  pub there_first : There s at u
  there_first =
      let z : at + 0 ≡ at = omega arith in
      let n : length u - 0 ≡ length u = omega arith in
      record {
        fits = omega (arith, h.fits, length-append u v);
        same =
            ap (λ (k : ℕ). part_of s k (at + length u)) (sym z)
            ∙ sym (part_part s at (at + (length u + length v)) 0 (length u) (omega arith) (omega arith))
            ∙ ap (λ r. part_of r 0 (length u)) whole
            ∙ ap (λ (k : ℕ). take k (u ++ v)) n
            ∙ take-append_seam u v;
      }

  pub there_rest : There s (at + length u) v
  there_rest =
      let z : at + length u + length v ≡ at + (length u + length v) = omega arith in
      record {
        fits = omega (arith, h.fits, length-append u v);
        same =
            ap (λ (k : ℕ). part_of s (at + length u) k) z
            ∙ sym (part_part s at (at + (length u + length v)) (length u) (length u + length v) (omega arith) (omega arith))
            ∙ ap (λ r. part_of r (length u) (length u + length v)) whole
            ∙ ap (take (length u + length v - length u)) (drop-append_seam u v)
            ∙ take_all (length u + length v - length u) v (omega arith);
      }

-- written again, it changes nothing
pub sets_there : {s : List ℕ} {at : ℕ} {v : List ℕ} → There s at v → sets s at v ≡ s
sets_there {s} {at} {v} h = ap (sets s at) (sym h.same) ∙ sets_part s at (at + length v) (omega arith) h.fits

-- what begins with it is written from its end on
pub sets_past : {s : List ℕ} {at : ℕ} {u : List ℕ} (v : List ℕ) → There s at u → sets s at (u ++ v) ≡ sets s (at + length u) v
sets_past {s} {at} {u} v h = sym (sets_append s at u v) ∙ ap (λ r. sets r (at + length u) v) (sets_there h)

-- where one byte of it is another, only that one is written
pub sets_other : {s : List ℕ} {at : ℕ} {v : List ℕ} (j x : ℕ) → There s at v → j < length v → sets s at (set v j x) ≡ set s (at + j) x
sets_other {s} {at} {v} j x h k =
    let u = take j v in
    let y = byte_at v j in
    let d = drop (suc j) v in
    let l : length u ≡ j = length-take-le j v (omega arith) in
    let g : There s at (u ++ y ∷ d) = rw (← split_at v j 0 k) h in
    let r : There s (at + length u + 1) d = there_rest (y ∷ []) d (there_rest u (y ∷ d) g) in
    let n : suc (at + length u) ≡ at + length u + 1 = omega arith in
    ap (sets s at) (set_split v j x k)
    ∙ sets_past (x ∷ d) (there_first u (y ∷ d) g)
    ∙ ap (λ (i : ℕ). sets (set s (at + length u) x) i d) n
    ∙ sets_there (there_behind (at + length u) (x ∷ []) r (omega arith))
    ∙ ap (λ (i : ℕ). set s (at + i) x) l

-- bytes that are moved up -------------------------------------------------------------------------------------------------------------------------

pub part_step : (s : List ℕ) (i e : ℕ) → i < e → i < length s → part_of s i e ≡ byte_at s i ∷ part_of s (i + 1) e
part_step s i e h k =
    let n : e - i ≡ suc (e - (i + 1)) = omega arith in
    ap (take (e - i)) (drop_step s i k) ∙ ap (λ (j : ℕ). take j (byte_at s i ∷ drop (i + 1) s)) n

-- one more of them, from the last down
pub moved_turn : (s b : List ℕ) (k i to : ℕ) → 0 < i → i ≤ to → to ≤ length s → b ≡ sets s (i + k) (part_of s i to) →
    set b (i - 1 + k) (byte_at b (i - 1)) ≡ sets s (i - 1 + k) (part_of s (i - 1) to)
moved_turn s b k i to h j m e =
    let v = part_of s i to in
    let n : i - 1 + 1 ≡ i = omega arith in
    let f : i + k ≡ suc (i - 1 + k) = omega arith in
    let x : byte_at b (i - 1) ≡ byte_at s (i - 1) = ap (λ r. byte_at r (i - 1)) e ∙ byte_before s (i + k) v (i - 1) (omega arith) in
    let p : part_of s (i - 1) to ≡ byte_at s (i - 1) ∷ v = part_step s (i - 1) to (omega arith) (omega arith) ∙ ap (λ (q : ℕ). byte_at s (i - 1) ∷ part_of s q to) n in
    ap (set b (i - 1 + k)) x
    ∙ ap (λ r. set r (i - 1 + k) (byte_at s (i - 1))) e
    ∙ set_sets s (i - 1 + k) (byte_at s (i - 1)) (i + k) v (omega arith)
    ∙ ap (λ (q : ℕ). sets (set s (i - 1 + k) (byte_at s (i - 1))) q v) f
    ∙ ap (sets s (i - 1 + k)) (sym p)
