-- `utf8::is_utf8` meets its contract.
-- Assumes nothing.
use Rattle.std.proofs.Common.{sym, ◌∙◌}
use Rattle.utf8.specs.Utf8Laws.{ascii_each}
use Rattle.utf8.proofs.utf8.is_utf8.Goals as goal

pub returns-then-all_long : goal.returns-then-all_long
returns-then-all_long c = sym (ascii_each _ (sym c.all_long.ensures ∙ c.if-all_long.true))
