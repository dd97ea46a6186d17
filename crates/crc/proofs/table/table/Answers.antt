-- `table::table` meets its contract: the table's rule is one test at each of its 4096 entries, which antt computes.
-- Tried without this answer, with the lemma and the definitions named on the function: the check does not find it alone.
-- Assumes nothing.
use Rattle.std.specs.Prelude.{refl}
use Rattle.crc.specs.Crc.{crc_bit, crc_byte}
use Rattle.crc.specs.Table.{passed, entry_of}
use Rattle.crc.proofs.Rule.{entries_rule}
use Rattle.crc.proofs.table.table.Goals as goal

pub returns : goal.returns
unfolding crc_bit crc_byte passed entry_of
returns c = entries_rule _ refl tt
