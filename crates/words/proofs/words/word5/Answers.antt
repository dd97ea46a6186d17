-- `words::word5` meets its contract: each number is that of one shipped word of this length.
-- Assumes nothing.
use borrow.Author.Tests.{ne_eqb}
use Rattle.words.proofs.Tables.{keys_5}
use Rattle.words.specs.Keys.{key_in, keyed}
use Rattle.words.proofs.words.word5.Goals as goal

pub returns-in-427021005669 : goal.returns-in-427021005669
unfolding key_in keyed
returns-in-427021005669 c = rw (keys_5, c.in-427021005669.is)

pub returns-in-487301149793 : goal.returns-in-487301149793
unfolding key_in keyed
returns-in-487301149793 c = rw (keys_5, c.in-487301149793.is)

pub returns-in-465557681249 : goal.returns-in-465557681249
unfolding key_in keyed
returns-in-465557681249 c = rw (keys_5, c.in-465557681249.is)

pub returns-in-482955849332 : goal.returns-in-482955849332
unfolding key_in keyed
returns-in-482955849332 c = rw (keys_5, c.in-482955849332.is)

pub returns-in-495807392116 : goal.returns-in-495807392116
unfolding key_in keyed
returns-in-495807392116 c = rw (keys_5, c.in-495807392116.is)

pub returns-in-513020621925 : goal.returns-in-513020621925
unfolding key_in keyed
returns-in-513020621925 c = rw (keys_5, c.in-513020621925.is)

pub returns-in_default : goal.returns-in_default
unfolding key_in keyed
returns-in_default c = rw (
  keys_5,
  ne_eqb _ _ c.in_default.in_default-own.rest.0.0.0.0.0.1,
  ne_eqb _ _ c.in_default.in_default-own.rest.0.0.0.0.1,
  ne_eqb _ _ c.in_default.in_default-own.rest.0.0.0.1,
  ne_eqb _ _ c.in_default.in_default-own.rest.0.0.1,
  ne_eqb _ _ c.in_default.in_default-own.rest.0.1,
  ne_eqb _ _ c.in_default.in_default-own.rest.1,
)
