-- `words::word2` meets its contract: each number is that of one shipped word of this length.
-- Assumes nothing.
use borrow.Author.Tests.{ne_eqb}
use Rattle.words.proofs.Tables.{keys_2}
use Rattle.words.specs.Keys.{key_in, keyed}
use Rattle.words.proofs.words.word2.Goals as goal

pub returns-in-9766 : goal.returns-in-9766
unfolding key_in keyed
returns-in-9766 c = rw (keys_2, c.in-9766.is)

pub returns-in-32294 : goal.returns-in-32294
unfolding key_in keyed
returns-in-32294 c = rw (keys_2, c.in-32294.is)

pub returns-in-28526 : goal.returns-in-28526
unfolding key_in keyed
returns-in-28526 c = rw (keys_2, c.in-28526.is)

pub returns-in-29025 : goal.returns-in-29025
unfolding key_in keyed
returns-in-29025 c = rw (keys_2, c.in-29025.is)

pub returns-in-29552 : goal.returns-in-29552
unfolding key_in keyed
returns-in-29552 c = rw (keys_2, c.in-29552.is)

pub returns-in-30323 : goal.returns-in-30323
unfolding key_in keyed
returns-in-30323 c = rw (keys_2, c.in-30323.is)

pub returns-in-30561 : goal.returns-in-30561
unfolding key_in keyed
returns-in-30561 c = rw (keys_2, c.in-30561.is)

pub returns-in_default : goal.returns-in_default
unfolding key_in keyed
returns-in_default c = rw (
  keys_2,
  ne_eqb _ _ c.in_default.in_default-own.rest.0.0.0.0.0.0.1,
  ne_eqb _ _ c.in_default.in_default-own.rest.0.0.0.0.0.1,
  ne_eqb _ _ c.in_default.in_default-own.rest.0.0.0.0.1,
  ne_eqb _ _ c.in_default.in_default-own.rest.0.0.0.1,
  ne_eqb _ _ c.in_default.in_default-own.rest.0.0.1,
  ne_eqb _ _ c.in_default.in_default-own.rest.0.1,
  ne_eqb _ _ c.in_default.in_default-own.rest.1,
)
