-- The rule of the table, proved by one test at each of its entries.
-- Assumes nothing.
use Rattle.std.specs.Prelude.{◌≡◌, Bool, List, ℕ, eqb, length, get_or}
use Rattle.std.proofs.Common.{arith}
use lib.Dec.{T, eqb→eq}
use Rattle.scan.proofs.Table.{every, at}
use Rattle.crc.specs.Table.{entry_of, Entries}

-- an entry is the one of the place that it stands at
abbrev pub right : ℕ → ℕ → Bool
right j x = eqb x (entry_of j)

-- the test of all entries together, carried to each
pub entries_rule : (table : List ℕ) → length table ≡ 4096 → T (every right 0 table) → Entries table
entries_rule table e t = record { rule = λ j h. eqb→eq (get_or table j 0) (entry_of j) (at right table t j (omega arith)) }
