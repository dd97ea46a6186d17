-- `handle::split_context` meets its contract.
-- Assumes nothing.
use borrow.Author.Tests.{eq-eqb, ne_eqb}
use Rattle.commands.specs.Handle.{split_context}
use Rattle.commands.proofs.handle.split_context.Goals as goal

pub returns-then-n-eq11 : goal.returns-then-n-eq11
unfolding split_context
returns-then-n-eq11 c = rw (eq-eqb _ _ c.if-n-eq11.true) c.vim_cmd_vs.ensures

pub returns : goal.returns
unfolding split_context
returns c = rw (ne_eqb _ _ c.if-n-eq11.false)
