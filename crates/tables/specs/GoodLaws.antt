-- Which bytes are a table: words in order, of word characters, to commands. Each of the three is tested by itself.
-- Assumes nothing.
use Rattle.std.specs.Prelude.{◌≡◌, ℕ, zero, suc, ◌+◌, ◌-◌, ◌<◌, ◌≤◌, Bool, true, false, cond, ◌&&◌, List, [], ◌∷◌, ◌++◌, length, take, drop, ◌==◌, nat_eq, refl, Option, Some, None}
use Rattle.std.proofs.Common.{sym, ◌∙◌, length-take-le, take-add, le-leb, eq-eqb, ne_eqb}
use Rattle.std.proofs.Math.Path.{ap}
use Rattle.std.proofs.Math.Bool.{and-true, and-false}
use native.Mathlib.Omega.{arith}
use Rattle.std.specs.List.{list_all}
use Rattle.std.proofs.lemmas.Option.{none-some, same_Some}
use Rattle.std.proofs.lemmas.List.Folds.{list_all-append}
use Rattle.std.proofs.Math.ListN.{length-drop}
use Rattle.limits.specs.Limits.{word_limit}
use Rattle.scan.specs.Bytes.{is_word}
use Rattle.scan.specs.Scan.{byte_at, part_of, run_from, run_at}
use Rattle.scan.specs.PartLaws.{part_length}
use Rattle.tables.specs.Table.{is_after, is_name, good_row, good_rows, repeated, lengths_from, sum, cut, commands_at, words_at, framed, table}
use Rattle.tables.specs.FrameLaws.{framed_told, lengths_count, test_are, lengths_fit}
use Rattle.tables.specs.Kinds.{is_command}
use Rattle.tables.specs.Walk.{lengths_at, in_order}

-- words of word characters --------------------------------------------------------------------------------------------------------------------------

-- a run that goes to the end
run_all : (p : ℕ → Bool) (i : ℕ) (xs : List ℕ) → (run_from p i xs == i + length xs) ≡ list_all p xs
unfolding run_from
run_all p i [] = eq-eqb i (i + 0) (omega arith)
run_all p i (x ∷ xs) = go (run_all p (i + 1) xs) (p x)
  where
    go : nat_eq (run_from p (i + 1) xs) (i + 1 + length xs) ≡ list_all p xs → (t : Bool) → ((elim t [ true ↦ run_from p (i + 1) xs | false ↦ i ]) == i + suc (length xs)) ≡ t && list_all p xs
    go again true = let q : i + suc (length xs) ≡ i + 1 + length xs = omega arith in rw q again
    go again false = ne_eqb i (i + suc (length xs)) (λ e. omega arith)

name_is : (w : List ℕ) → 1 ≤ length w → length w ≤ word_limit → is_name w ≡ list_all is_word w
unfolding is_name run_at
name_is w h k = let q : length w ≡ 0 + length w = omega arith in rw (le-leb 1 (length w) h, le-leb (length w) word_limit k) (ap (nat_eq (run_from is_word 0 w)) q ∙ run_all is_word 0 w)

-- lengths of words
abbrev Sizes : List ℕ → Type 0
Sizes [] = Unit {0}
Sizes (l ∷ ls) = ((1 ≤ l) × (l ≤ word_limit)) × Sizes ls

sizes_more : (c m : ℕ) (ls : List ℕ) → 1 ≤ m → m ≤ word_limit → Sizes ls → Sizes (repeated c m ++ ls)
unfolding repeated
sizes_more zero m ls h k s = s
sizes_more (suc c) m ls h k s = ((h, k), sizes_more c m ls h k s)

sizes_from : (m : ℕ) (cs : List ℕ) → 1 ≤ m → m + length cs ≤ suc word_limit → Sizes (lengths_from m cs)
unfolding lengths_from
sizes_from m [] h k = tt
sizes_from m (c ∷ cs) h k = sizes_more c m (lengths_from (suc m) cs) h (omega arith) (sizes_from (suc m) cs (omega arith) (omega arith))

-- three tests of a row and three of the others
six : (a n c i w k : Bool) → (a && n && c) && (i && w && k) ≡ (a && i) && (n && w) && (c && k)
six false n c i w k = refl
six true false c false w k = refl
six true false c true w k = refl
six true true false false w k = refl
six true true false true false k = refl
six true true false true true k = refl
six true true true i w k = refl

good_is : (v : List ℕ) (ls os ws : List ℕ) → Sizes ls → sum ls ≤ length ws → length ls ≤ length os →
    good_rows v (cut ls os ws) ≡ in_order v ls ws && list_all is_word (take (sum ls) ws) && list_all is_command (take (length ls) os)
unfolding good_rows good_row cut in_order sum is_command
good_is v [] os ws s h k = refl
good_is v (l ∷ ls) [] ws s h k = absurd (omega arith)
good_is v (l ∷ ls) (o ∷ os) ws s h k =
    let w = take l ws in
    let n : length w ≡ l = length-take-le l ws (omega arith) in
    let more = good_is w ls os (drop l ws) s.1 (omega (arith, length-drop l ws)) (omega arith) in
    let words : list_all is_word (take (l + sum ls) ws) ≡ list_all is_word w && list_all is_word (take (sum ls) (drop l ws)) =
    ap (list_all is_word) (take-add l (sum ls) ws) ∙ list_all-append is_word w (take (sum ls) (drop l ws)) in
    rw (more, name_is w (omega (arith, s.0.0)) (omega (arith, s.0.1)), words)
    (six (is_after v w) (list_all is_word w) (is_command o) (in_order w ls (drop l ws)) (list_all is_word (take (sum ls) (drop l ws))) (list_all is_command (take (length ls) os)))

-- in bytes -------------------------------------------------------------------------------------------------------------------------------------------

-- the three tests
module _ (at most : ℕ) (b : List ℕ) where
  abbrev words_end : ℕ
  words_end = words_at at most + sum (lengths_at b at 1)

  abbrev ordered : Bool
  ordered = in_order [] (lengths_at b at 1) (drop (words_at at most) b)

  abbrev all_words : Bool
  all_words = list_all is_word (part_of b (words_at at most) words_end)

  abbrev all_commands : Bool
  all_commands = list_all is_command (part_of b (commands_at at) (commands_at at + byte_at b at))

module _ (at most : ℕ) (b : List ℕ) (is : framed at most b ≡ true) (words : 0 < byte_at b at) where
  lengths_sizes : Sizes (lengths_at b at 1)
  lengths_sizes =
      let f = framed_told at most b is in
      sizes_from 1 (part_of b (at + 1) (commands_at at)) (omega arith) (omega (arith, part_length b (at + 1) (commands_at at) (omega (arith, f.size))))

  test_is : (table at most).test b ≡ ordered at most b && all_words at most b && all_commands at most b
  test_is =
      let f = framed_told at most b is in
      let ls = lengths_at b at 1 in
      let ws = drop (words_at at most) b in
      let os = drop (commands_at at) b in
      let s : sum ls ≡ words_end at most b - words_at at most = omega arith in
      let n : length ls ≡ commands_at at + byte_at b at - commands_at at = omega (arith, lengths_count at most b f words) in
      test_are at most b is words
      ∙ good_is [] ls os ws lengths_sizes (omega (arith, length-drop (words_at at most) b, lengths_fit at most b f words))
      (omega (arith, length-drop (commands_at at) b, f.size, f.few, lengths_count at most b f words))
      ∙ ap (λ (i : ℕ). in_order [] ls ws && list_all is_word (take i ws) && list_all is_command (take (length ls) os)) s
      ∙ ap (λ (i : ℕ). in_order [] ls ws && all_words at most b && list_all is_command (take i os)) n

  -- by the place where the words end, if they ascend
  module _ (r : Option ℕ) (ends : r ≡ cond (ordered at most b) (Some (words_end at most b)) None) where
    pub test_unordered : r ≡ None → (table at most).test b ≡ false
    test_unordered h = test_is ∙ go (ordered at most b) ends
      where
        go : (t : Bool) → r ≡ cond t (Some (words_end at most b)) None → t && all_words at most b && all_commands at most b ≡ false
        go true q = absurd (none-some (words_end at most b) (sym h ∙ q))
        go false q = refl

    module _ (e : ℕ) (some : r ≡ Some e) where
      are_ordered : (ordered at most b ≡ true) × (e ≡ words_end at most b)
      are_ordered = go (ordered at most b) refl ends
        where
          go : (t : Bool) → ordered at most b ≡ t → r ≡ cond t (Some (words_end at most b)) None → (ordered at most b ≡ true) × (e ≡ words_end at most b)
          go true t q = (t, same_Some e (words_end at most b) (sym some ∙ q))
          go false t q = absurd (none-some e (sym q ∙ some))

      pub words_end_lem : e ≡ words_at at most + sum (lengths_at b at 1)
      words_end_lem = are_ordered.1

      commands_at_lem : (k : ℕ) → k ≡ commands_at at → all_commands at most b ≡ list_all is_command (part_of b k (k + byte_at b at))
      commands_at_lem k p = ap (λ (i : ℕ). list_all is_command (part_of b i (i + byte_at b at))) (sym p)

      -- where the commands begin at k
      pub test_commands : (k : ℕ) → k ≡ commands_at at → list_all is_command (part_of b k (k + byte_at b at)) ≡ false → (table at most).test b ≡ false
      test_commands k p h = test_is ∙ ap (λ t. ordered at most b && all_words at most b && t) (commands_at_lem k p ∙ h) ∙ and-false (ordered at most b && all_words at most b)

      -- and the words at w
      pub test_words : (k w : ℕ) → k ≡ commands_at at → w ≡ words_at at most → list_all is_command (part_of b k (k + byte_at b at)) ≡ true →
          (table at most).test b ≡ list_all is_word (part_of b w e)
      test_words k w p q h =
          test_is
          ∙ ap (λ t. ordered at most b && all_words at most b && t) (commands_at_lem k p ∙ h)
          ∙ and-true (ordered at most b && all_words at most b)
          ∙ ap (λ t. t && all_words at most b) are_ordered.0
          ∙ ap (λ (i : ℕ). list_all is_word (part_of b i (words_end at most b))) (sym q)
          ∙ ap (λ (i : ℕ). list_all is_word (part_of b w i)) (sym are_ordered.1)
