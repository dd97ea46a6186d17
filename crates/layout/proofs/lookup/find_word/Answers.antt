-- `lookup::find_word` meets its contract.
-- Assumes nothing.
use mathlib.Core.Path.{sym, ◌∙◌}
use Rattle.words.specs.Words.{lookup}
use Rattle.words.specs.LookupLaws.{lookup_append}
use Rattle.layout.proofs.lookup.find_word.Goals as goal

pub returns-in-Some : goal.returns-in-Some
returns-in-Some c = rw (lookup_append, sym c.find_added.ensures ∙ c.in-Some.is)

pub returns-in-None : goal.returns-in-None
unfolding lookup
returns-in-None c = rw (lookup_append, sym c.find_added.ensures ∙ c.in-None.is) c.lookup.ensures
