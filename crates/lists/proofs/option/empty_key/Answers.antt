-- `option::empty_key` meets its contract.
-- Assumes nothing.
use mathlib.Core.Path.{◌∙◌, sym, ap}
use Rattle.lists.specs.Lists.{keyless}
use Rattle.lists.specs.OptionLaws.{keyless_flag, keyless_plain}
use Rattle.lists.proofs.option.empty_key.Goals as goal

pub returns-in-Some : goal.returns-in-Some
returns-in-Some c = c.key_is_empty.ensures ∙ sym (keyless_flag (rw c.in-Some.is at c.flag_start.ensures))
    ∙ ap keyless c.item_text-t.ensures.bytes

pub returns-in-None : goal.returns-in-None
returns-in-None c = sym (ap keyless (sym c.item_text-t.ensures.bytes) ∙ keyless_plain _ (rw c.in-None.is at c.flag_start.ensures))
