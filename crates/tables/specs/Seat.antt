-- Where a word stands in a table, as the code finds it: in no row, or in one whose number and place are told.
-- Assumes nothing.
use Rattle.std.specs.Prelude.{◌≡◌, ℕ, ◌+◌, ◌-◌, ◌*◌, ◌<◌, ◌≤◌, true, List, ◌++◌, length, drop, ◌≢◌, Option, Some, None}
use Rattle.std.proofs.Common.{sym, ◌∙◌, arith, length-append, get_or-drop}
use Rattle.std.proofs.Math.Path.{ap}
use Rattle.limits.specs.Limits.{word_limit}
use Rattle.scan.specs.Scan.{byte_at, part_of}
use Rattle.words.specs.Words.{lookup_in}
use Rattle.tables.specs.Table.{repeated, lengths_from, sum, commands_at, words_at, table_end, framed, table}
use Rattle.tables.specs.Walk.{lengths_at, seek}
use Rattle.tables.specs.PartsLaws.{repeated_length, from_length, sum_append, sum_repeated}
use Rattle.tables.specs.FrameLaws.{framed_told, rows_are, lengths_count, lengths_sum}
use Rattle.tables.specs.FindLaws.{seek_most, Standing, standing_look, table_standing}

-- a word stands in the n-th row, its bytes from p on
pub record Seated (at most : ℕ) (b w : List ℕ) (n p : ℕ) : Type 0 where
  pub one : 1 ≤ length w
  pub short : length w ≤ word_limit
  pub frame : framed at most b ≡ true
  pub some : 0 < byte_at b at
  pub counted : 0 < byte_at b (at + length w)
  pub before : List ℕ
  pub behind : List ℕ
  pub standing : Standing (lengths_at b at 1) (drop (words_at at most) b) w before behind
  pub row : n ≡ length before
  pub place : p ≡ words_at at most + sum before

-- what is found
unfoldable pub Found : ℕ → ℕ → List ℕ → List ℕ → Option (ℕ × ℕ) → Type 0
Found at most b w None = None ≡ lookup_in ((table at most).read b) w
Found at most b w (Some (n, p)) = Seated at most b w n p

-- the word is the j-th of those as long, of which the first stands at p behind so many rows
module _ (at most : ℕ) (b w : List ℕ) (f : framed at most b ≡ true) (k : 0 < byte_at b at) (one : 1 ≤ length w) (short : length w ≤ word_limit) where
  pub seated : (rows p j : ℕ) → rows ≡ sum (part_of b (at + 1) (at + length w)) → p ≡ words_at at most + sum (lengths_from 1 (part_of b (at + 1) (at + length w))) →
      j ≡ seek (byte_at b (at + length w)) w (drop p b) → (j ≢ byte_at b (at + length w)) → Seated at most b w (rows + j) (p + j * length w)
  seated rows p j r e h n =
      let m = length w in
      let c = byte_at b (at + m) in
      let s = seek c w (drop p b) in
      let l : s < c = omega (arith, seek_most c w (drop p b), h, n) in
      let xs = lengths_from 1 (part_of b (at + 1) (at + m)) in
      let ge = ap (λ (x : ℕ). x * m) h in
      record {
        one = one;
        short = short;
        frame = f;
        some = k;
        counted = omega arith;
        before = xs ++ repeated s m;
        behind = repeated (c - (s + 1)) m ++ lengths_at b at (m + 1);
        standing = table_standing at most b w one short (framed_told at most b f).size f k p e l;
        row = omega (arith, length-append xs (repeated s m), from_length 1 (part_of b (at + 1) (at + m)), repeated_length s m);
        place = omega (arith, sum_append xs (repeated s m), sum_repeated s m);
      }

-- its row and its bytes are the table's, and it leads to its command
module _ {at most : ℕ} {b w : List ℕ} {n p : ℕ} (s : Seated at most b w n p) where
  pub seated_row : n < byte_at b at
  seated_row =
      let c = ap length s.standing.lengths ∙ length-append s.before _ in
      omega (arith, s.row, c, lengths_count at most b (framed_told at most b s.frame) s.some)

  pub seated_end : p + length w ≤ words_at at most + sum (lengths_at b at 1)
  unfolding sum
  seated_end = let c = ap sum s.standing.lengths ∙ sum_append s.before _ in omega (arith, s.place, c)

  -- so there is room for both
  pub seated_size : table_end at most ≤ length b
  seated_size = (framed_told at most b s.frame).size

  pub seated_few : n < most
  seated_few = omega (arith, seated_row, (framed_told at most b s.frame).few)

  pub seated_last : words_at at most + sum (lengths_at b at 1) ≤ table_end at most
  seated_last = let f = framed_told at most b s.frame in omega (arith, lengths_sum at most b f s.some, f.few)

  pub seated_look : (i : ℕ) → i ≡ commands_at at + n → Some (byte_at b i) ≡ lookup_in ((table at most).read b) w
  seated_look i e =
      let j : i ≡ commands_at at + length s.before = omega (arith, s.row) in
      ap Some (ap (byte_at b) j ∙ sym (get_or-drop (commands_at at) b (length s.before) 0))
      ∙ sym (ap (λ rs. lookup_in rs w) (rows_are at most b s.frame s.some) ∙ standing_look s.standing (drop (commands_at at) b))
