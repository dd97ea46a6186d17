-- `range::parse_range_atom` meets its contract.
-- Assumes nothing.
use Rattle.std.proofs.Math.ListN.{get_or-eq_default}
use Rattle.ranges.specs.Range.{atom_at, number_or, sign_atom}
use Rattle.ranges.proofs.range.parse_range_atom.Goals as goal

-- past the end no sign stands
pub returns-else-at-s : goal.returns-else-at-s
unfolding atom_at number_or sign_atom
returns-else-at-s c =
    let none = rw c.text_again.ensures at c.in_ok-n.ensures in
    rw (← none, c.in-None.is, get_or-eq_default c.args.s.now 0 c.if-at-s.false)
