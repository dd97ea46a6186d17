-- Lookup by numbers: the words of one length, each as two numbers, which its first eight bytes and the rest make.
-- Assumes nothing.
use Rattle.std.specs.Prelude.{true, false, cond, ◌&&◌, List, [], ◌∷◌, ℕ, ◌+◌, ◌*◌, eqb, length, take, drop, Option, Some, None}
use Rattle.words.specs.Words.{Row, shipped}

-- k, and then the bytes of w, to the base 256
unfoldable pub pack_from : ℕ → List ℕ → ℕ
pack_from k [] = k
pack_from k (b ∷ bs) = pack_from (k * 256 + b) bs

unfoldable pub pack : List ℕ → ℕ
pack w = pack_from 0 w

-- the rows whose words have n bytes
unfoldable pub of_length : ℕ → List Row → List Row
of_length n [] = []
of_length n (r ∷ rs) = elim (eqb (length r.word) n) [ true ↦ r ∷ of_length n rs | false ↦ of_length n rs ]

-- the numbers of a word, and the command that it leads to
pub record Key : Type 0 where
  pub front : ℕ
  pub back : ℕ
  pub command : ℕ

-- each word as its numbers
unfoldable pub keys_of : List Row → List Key
keys_of [] = []
keys_of (r ∷ rs) = record { front = pack (take 8 r.word); back = pack (drop 8 r.word); command = r.command } ∷ keys_of rs

-- the command of the first that has the numbers
unfoldable pub key_in : List Key → ℕ → ℕ → Option ℕ
key_in [] f b = None
key_in (x ∷ xs) f b = cond (eqb f x.front && eqb b x.back) (Some x.command) (key_in xs f b)

-- the shipped words of n bytes, by their numbers
unfoldable pub keyed : ℕ → ℕ → ℕ → Option ℕ
keyed n f b = key_in (keys_of (of_length n shipped)) f b
