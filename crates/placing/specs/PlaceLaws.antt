-- Where a word goes in a table that has words: behind those of lower lengths and those of its own that come before it.
-- Assumes nothing.
use Rattle.std.specs.Prelude.{◌≡◌, refl, Bool, true, false, ◌&&◌, List, ◌∷◌, ◌++◌, ltb, take, drop, get_or}
use Rattle.std.proofs.Common.{sym, ◌∙◌, append_assoc, length-append, drop-drop, ltb-true, ltb-false}
use Rattle.std.proofs.Math.Path.{ap}
use Prim.Native.Nat.{ℕ, suc, ◌+◌, ◌-◌, ◌*◌, ◌<◌, ◌≤◌}
use native.Mathlib.Omega.{arith}
use Rattle.std.proofs.Math.ListN.{length, length-drop}
use Rattle.limits.specs.Limits.{word_limit}
use Rattle.scan.specs.PartLaws.{part_length}
use Rattle.scan.specs.Scan.{byte_at, part_of}
use Rattle.words.specs.Words.{Row, same}
use Rattle.words.specs.LookupLaws.{same_eq}
use Rattle.fields.specs.Field.{Bytes}
use Rattle.tables.specs.Table.{is_after, lengths_of, words_of, repeated, lengths_from, sum, cut, commands_at, words_at, framed, table}
use Rattle.tables.specs.PartsLaws.{cut_length, cut_lengths, words_length, repeated_length, from_length, sum_append, sum_repeated, cut_two, repeated_two}
use Rattle.tables.specs.Walk.{lengths_at, rank}
use Rattle.tables.specs.FrameLaws.{Framed, framed_told, rows_are, lengths_fit}
use Rattle.tables.specs.TailLaws.{bytes_part, part_two}
use Rattle.placing.specs.WriteLaws.{part_step}
use Rattle.placing.specs.Change.{row}
use Rattle.placing.specs.AfterLaws.{same_back, after_either}
use Rattle.placing.specs.ChangeLaws.{all_before, ahead, before_append, short_before, long_ahead, rank_before, rank_most, rank_next}
use Rattle.tables.specs.FindLaws.{lengths_three}

-- of its own length there are no more than all
pub group_few : (at most : ℕ) (b w : List ℕ) → framed at most b ≡ true → 0 < byte_at b at → 1 ≤ length w → length w ≤ word_limit →
    sum (part_of b (at + 1) (at + length w)) + byte_at b (at + length w) ≤ byte_at b at
unfolding sum
group_few at most b w h some one short =
    let f = framed_told at most b h in
    let m = length w in
    let u = part_of b (at + 1) (at + m) in
    let v = part_of b (at + m) (commands_at at) in
    let e : sum v ≡ byte_at b (at + m) + sum (part_of b (at + m + 1) (commands_at at)) = ap sum (part_step b (at + m) (commands_at at) (omega arith) (omega (arith, f.size))) in
    omega (arith, f.total some, ap sum (part_two b (at + 1) (at + m) (commands_at at) (omega arith) (omega arith)), sum_append u v)

module _ (at most : ℕ) (b w : List ℕ) (j : ℕ) where
  -- how many words there are of each lower length, and of its own
  abbrev lower : List ℕ
  lower = part_of b (at + 1) (at + length w)

  abbrev own : ℕ
  own = byte_at b (at + length w)

  abbrev start : ℕ
  start = words_at at most + sum (lengths_from 1 lower)

  abbrev head : List ℕ
  head = lengths_from 1 lower ++ repeated j (length w)

  abbrev tail : List ℕ
  tail = repeated (own - j) (length w) ++ lengths_at b at (length w + 1)

  -- those before it, and those behind
  abbrev pub first_rows : List Row
  first_rows = cut head (drop (commands_at at) b) (drop (words_at at most) b)

  abbrev pub last_rows : List Row
  last_rows = cut tail (drop (length head) (drop (commands_at at) b)) (drop (sum head) (drop (words_at at most) b))

  module _ (h : framed at most b ≡ true) (some : 0 < byte_at b at) (one : 1 ≤ length w) (short : length w ≤ word_limit) (e : j ≡ rank own w (drop start b)) where
    f : Framed at most b
    f = framed_told at most b h

    j_most : j ≤ own
    j_most = omega (arith, rank_most own w (drop start b))

    all_lengths : lengths_at b at 1 ≡ head ++ tail
    all_lengths =
        let m = length w in
        let z = lengths_at b at (m + 1) in
        let d : own ≡ j + (own - j) = omega (arith, j_most) in
        lengths_three b at (length w) one short (omega (arith, f.size))
        ∙ ap (λ (k : ℕ). lengths_from 1 lower ++ (repeated k m ++ z)) d
        ∙ ap (λ v. lengths_from 1 lower ++ (v ++ z)) (repeated_two j (own - j) m)
        ∙ ap (λ v. lengths_from 1 lower ++ v) (append_assoc (repeated j m) (repeated (own - j) m) z)
        ∙ sym (append_assoc (lengths_from 1 lower) (repeated j m) tail)

    pub rows_two : (table at most).read b ≡ first_rows ++ last_rows
    rows_two =
        rows_are at most b h some
        ∙ ap (λ v. cut v (drop (commands_at at) b) (drop (words_at at most) b)) all_lengths
        ∙ cut_two head tail (drop (commands_at at) b) (drop (words_at at most) b)

    -- all their bytes are there
    bytes_there : words_at at most + (sum head + sum tail) ≤ length b
    bytes_there = omega (arith, lengths_fit at most b f some, ap sum all_lengths, sum_append head tail)

    pub first_count : length first_rows ≡ sum lower + j
    first_count =
        cut_length head (drop (commands_at at) b) (drop (words_at at most) b)
        ∙ omega (arith, length-append (lengths_from 1 lower) (repeated j (length w)), from_length 1 lower, repeated_length j (length w))

    sum_head : sum head ≡ sum (lengths_from 1 lower) + j * length w
    sum_head = omega (arith, sum_append (lengths_from 1 lower) (repeated j (length w)), sum_repeated j (length w))

    pub first_bytes : words_at at most + length (words_of first_rows) ≡ start + j * length w
    first_bytes =
        let l : lengths_of first_rows ≡ head =
        cut_lengths head (drop (commands_at at) b) (drop (words_at at most) b) (omega (arith, length-drop (words_at at most) b, bytes_there)) in
        omega (arith, words_length first_rows, ap sum l, sum_head)

    pub first_before : all_before w first_rows ≡ true
    first_before =
        let m = length w in
        let ls = lengths_from 1 lower in
        let n : 1 + length lower ≤ m = omega (arith, part_length b (at + 1) (at + m) (omega (arith, f.size))) in
        let r = rank_before own w (drop (length ls) (drop (commands_at at) b)) (drop start b) in
        let g : all_before w (cut (repeated j m) (drop (length ls) (drop (commands_at at) b)) (drop (sum ls) (drop (words_at at most) b))) ≡ true =
        ap (λ v. all_before w (cut (repeated j m) (drop (length ls) (drop (commands_at at) b)) v)) (drop-drop (sum ls) (words_at at most) b)
        ∙ ap (λ (k : ℕ). all_before w (cut (repeated k m) (drop (length ls) (drop (commands_at at) b)) (drop start b))) e ∙ r in
        ap (all_before w) (cut_two ls (repeated j m) (drop (commands_at at) b) (drop (words_at at most) b))
        ∙ before_append w _ _ (short_before w 1 lower (drop (commands_at at) b) (drop (words_at at most) b) n) g

    -- the next word of its own length
    abbrev next : List ℕ
    next = part_of b (start + j * length w) (start + j * length w + length w)

    abbrev behind : List ℕ
    behind = drop (sum head) (drop (words_at at most) b)

    behind_is : behind ≡ drop (start + j * length w) b
    behind_is =
        let p : words_at at most + sum head ≡ start + j * length w = omega (arith, sum_head) in
        drop-drop (sum head) (words_at at most) b ∙ ap (λ (k : ℕ). drop k b) p

    next_is : take (length w) behind ≡ next
    next_is =
        let n : length w ≡ start + j * length w + length w - (start + j * length w) = omega arith in
        ap (take (length w)) behind_is ∙ ap (λ (k : ℕ). take k (drop (start + j * length w) b)) n

    -- there is one
    module _ (less : j < own) where
      abbrev rest : List ℕ
      rest = repeated (own - (j + 1)) (length w) ++ lengths_at b at (length w + 1)

      tail_more : tail ≡ length w ∷ rest
      unfolding repeated
      tail_more = let n : own - j ≡ suc (own - (j + 1)) = omega arith in ap (λ (k : ℕ). repeated k (length w) ++ lengths_at b at (length w + 1)) n

      abbrev pub command : ℕ
      command = get_or (drop (length head) (drop (commands_at at) b)) 0 0

      abbrev pub next_rows : List Row
      next_rows = cut rest (drop 1 (drop (length head) (drop (commands_at at) b))) (drop (length w) behind)

      last_more : last_rows ≡ row next command ∷ next_rows
      unfolding cut
      last_more = ap (λ v. cut v (drop (length head) (drop (commands_at at) b)) behind) tail_more ∙ ap (λ v. row v command ∷ next_rows) next_is

      pub last_known : same w next ≡ true → last_rows ≡ row w command ∷ next_rows
      last_known q = last_more ∙ ap (λ v. row v command ∷ next_rows) (sym (same_eq w next q))

      -- it does not come before the word
      next_not : is_after next w ≡ false
      next_not =
          let d : drop (rank own w (drop start b) * length w) (drop start b) ≡ drop (start + j * length w) b =
          ap (λ (k : ℕ). drop (k * length w) (drop start b)) (sym e) ∙ drop-drop (j * length w) start b in
          ap (λ v. is_after v w) (sym next_is ∙ ap (take (length w)) (behind_is ∙ sym d)) ∙ rank_next own w (drop start b) (omega arith)

      other_ahead : Bytes b → Bytes w → same w next ≡ false → ahead w last_rows ≡ true
      unfolding ahead
      other_ahead p r q =
          ap (ahead w) last_more
          ∙ after_either next w (bytes_part (start + j * length w) (start + j * length w + length w) b p) r next_not (same_back w next q)

    -- there is none
    none_ahead : own ≤ j → ahead w last_rows ≡ true
    unfolding repeated
    none_ahead l =
        let m = length w in
        let n : own - j ≡ 0 = omega arith in
        let t : tail ≡ lengths_at b at (m + 1) = ap (λ (k : ℕ). repeated k m ++ lengths_at b at (m + 1)) n in
        ap (λ v. ahead w (cut v (drop (length head) (drop (commands_at at) b)) behind)) t
        ∙ long_ahead w (m + 1) (part_of b (at + (m + 1)) (commands_at at)) (drop (length head) (drop (commands_at at) b)) behind (omega arith)
        (omega (arith, ap sum t, bytes_there, length-drop (sum head) (drop (words_at at most) b), length-drop (words_at at most) b))

    pub last_ahead : Bytes b → Bytes w → (ltb j own && same w next) ≡ false → ahead w last_rows ≡ true
    last_ahead p r q = go (ltb j own) refl q
      where
        go : (t : Bool) → ltb j own ≡ t → (t && same w next) ≡ false → ahead w last_rows ≡ true
        go true l s = other_ahead (ltb-true j own l) p r s
        go false l s = none_ahead (ltb-false j own l)
