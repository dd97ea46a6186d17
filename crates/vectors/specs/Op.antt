-- What a vector asks for, by the oracle's numbers.
-- Assumes nothing.
use Rattle.std.specs.Prelude.{ℕ, cond, eqb}
use Rattle.vectors.specs.declared.op.List.{List}
use Rattle.vectors.specs.declared.op.Op.{Op}

-- those above 9 do not occur, and are read as 9
unfoldable pub op_of : ℕ → Op
op_of n =
    cond (eqb n 0) Op.Fresh
    (cond (eqb n 1) Op.Alias
    (cond (eqb n 2) Op.Line
    (cond (eqb n 3) Op.Range
    (cond (eqb n 4) (Op.Items List.Filenames)
    (cond (eqb n 5) (Op.Items List.Strings)
    (cond (eqb n 6) (Op.Items List.Options)
    (cond (eqb n 7) Op.Reading
    (cond (eqb n 8) Op.Sized Op.Damaged))))))))
