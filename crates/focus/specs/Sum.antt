-- The sum of offsets. Document 01, section Commands: "sum_mods starts at Next, 0. Same direction adds; the other direction turns and
-- leaves the difference's size. So +5-3 is Previous 2." Refusal 7: "An offset sum that is worked out passes 2^64 - 1".
-- Assumes nothing.
use Rattle.std.specs.Prelude.{Bool, true, false, cond, List, [], ◌∷◌, ℕ, zero, suc, ◌+◌, ◌-◌, drop, eqb, leb, Result, Ok, Err, Some, None}
use Rattle.limits.specs.Limits.{most}
use Rattle.scan.specs.Scan.{digits_from}
use Rattle.ranges.specs.Range.{is_sign}
use Rattle.ranges.specs.declared.range.MoveDir1D.{MoveDir1D}
use Rattle.limits.specs.declared.refusal.Refusal.{Refusal}

-- the direction and size of a sum, or that it passed 2^64 - 1
abbrev pub Sum : Type 0
Sum = Result (MoveDir1D × ℕ) Refusal

-- the same direction adds
unfoldable pub add_same : MoveDir1D → ℕ → ℕ → Sum
add_same d n k = cond (leb (n + k) most) (Ok (d, n + k)) (Err Refusal.SumTooLarge)

-- the difference's size
unfoldable pub apart : ℕ → ℕ → ℕ
apart n k = cond (leb k n) (n - k) (k - n)

-- an offset of k more, `+` or not
unfoldable pub add_is : MoveDir1D → ℕ → Bool → ℕ → Sum
add_is MoveDir1D.Next n true k = add_same MoveDir1D.Next n k
add_is MoveDir1D.Next n false k = Ok (MoveDir1D.Previous, apart n k)
add_is MoveDir1D.Previous n true k = Ok (MoveDir1D.Next, apart n k)
add_is MoveDir1D.Previous n false k = add_same MoveDir1D.Previous n k

unfoldable pub add_to : Sum → Bool → ℕ → Sum
add_to (Err why) plus k = Err why
add_to (Ok (d, n)) plus k = add_is d n plus k

-- the sum a, and then the offsets that start xs, the text left at i, once k bytes of it are passed; no digits mean 1
unfoldable pub sum_from : ℕ → ℕ → Sum → List ℕ → Sum
sum_from k i a [] = a
sum_from (suc k) i a (b ∷ bs) = sum_from k (i + 1) a bs
sum_from zero i a (b ∷ bs) =
    elim (is_sign b) [
      | true ↦ elim (digits_from (i + 1) bs) [
        | Ok None ↦ sum_from 0 (i + 1) (add_to a (eqb b 0x2B) 1) bs
        | Ok (Some (n, j)) ↦ sum_from (j - (i + 1)) (i + 1) (add_to a (eqb b 0x2B) n) bs
        | Err why ↦ Err Refusal.SumTooLarge
      ]
      | false ↦ a
    ]

unfoldable pub sum_at : Sum → List ℕ → ℕ → Sum
sum_at a s i = sum_from 0 i a (drop i s)

-- the sum of the offsets at i
unfoldable pub sum_of : List ℕ → ℕ → Sum
sum_of s i = sum_at (Ok (MoveDir1D.Next, 0)) s i

-- a number moved by a sum, saturating
unfoldable pub moved : ℕ → MoveDir1D → ℕ → ℕ
moved n MoveDir1D.Next k = cond (leb (n + k) most) (n + k) most
moved n MoveDir1D.Previous k = n - k
