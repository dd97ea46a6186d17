-- `texts::page::Page::quoted` meets its contract.
-- Assumes nothing.
use Rattle.texts.specs.Written.{Adds}
use Rattle.texts.proofs.page.Page.quoted.Given as goal

abbrev pub invariant-loop-i : goal.invariant-loop-i
invariant-loop-i l = Adds l.fn.self l.self
