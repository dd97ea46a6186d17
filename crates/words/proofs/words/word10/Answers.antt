-- `words::word10` meets its contract: each pair of numbers is that of one shipped word of this length.
-- Assumes nothing.
use borrow.Author.Tests.{ne_eqb}
use Rattle.words.proofs.Tables.{keys_10}
use Rattle.words.specs.Keys.{key_in, keyed}
use Rattle.words.proofs.words.word10.Goals as goal

pub returns-in-8244234291205268844 : goal.returns-in-8244234291205268844
unfolding key_in keyed
returns-in-8244234291205268844 c = rw (keys_10, c.in-8244234291205268844.is, c.ended.ensures)

pub returns-in-8319664134650688629 : goal.returns-in-8319664134650688629
unfolding key_in keyed
returns-in-8319664134650688629 c = rw (keys_10, c.in-8319664134650688629.is, c.ended-in-8319664134650688629.ensures)

pub returns-in-7525359299710643828 : goal.returns-in-7525359299710643828
unfolding key_in keyed
returns-in-7525359299710643828 c = rw (keys_10, c.in-7525359299710643828.is, c.ended-in-7525359299710643828.ensures)

pub returns-in-7090192414365870439 : goal.returns-in-7090192414365870439
unfolding key_in keyed
returns-in-7090192414365870439 c = rw (keys_10, c.in-7090192414365870439.is, c.ended-in-7090192414365870439.ensures)

pub returns-in_default : goal.returns-in_default
unfolding key_in keyed
returns-in_default c = rw (keys_10, ne_eqb _ _ c.in_default.in_default-own.rest.0.0.0.1, ne_eqb _ _ c.in_default.in_default-own.rest.0.0.1, ne_eqb _ _ c.in_default.in_default-own.rest.0.1, ne_eqb _ _ c.in_default.in_default-own.rest.1)
