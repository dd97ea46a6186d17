-- `text::command_of_word` meets its contract.
-- Assumes nothing.
use mathlib.Core.Path.{sym, ◌∙◌, ap}
use Rattle.words.specs.Words.{shipped, lookup_in}
use Rattle.words.specs.LookupLaws.{lookup_append}
use Rattle.spellings.specs.SpellingsLaws.{in_order_lookup}
use Rattle.tokens.proofs.text.command_of_word.Goals as goal

pub returns-in-Some : goal.returns-in-Some
returns-in-Some c = rw (lookup_append, sym c.find_added.ensures ∙ c.in-Some.is)

pub returns-in-None : goal.returns-in-None
returns-in-None c = let a = c.args in
    rw (lookup_append, sym c.find_added.ensures ∙ c.in-None.is)
    (c.command_of.ensures ∙ ap (λ rs. lookup_in rs a.w.now) c.spellings-rows.ensures ∙ in_order_lookup shipped a.w.now)
