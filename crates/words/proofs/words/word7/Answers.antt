-- `words::word7` meets its contract: each number is that of one shipped word of this length.
-- Assumes nothing.
use borrow.Author.Tests.{ne_eqb}
use Rattle.words.proofs.Tables.{keys_7}
use Rattle.words.specs.Keys.{key_in, keyed}
use Rattle.words.proofs.words.word7.Goals as goal

pub returns-in-32758172148398196 : goal.returns-in-32758172148398196
unfolding key_in keyed
returns-in-32758172148398196 c = rw (keys_7, c.in-32758172148398196.is)

pub returns-in-31935768152861804 : goal.returns-in-31935768152861804
unfolding key_in keyed
returns-in-31935768152861804 c = rw (keys_7, c.in-31935768152861804.is)

pub returns-in-32758172534204788 : goal.returns-in-32758172534204788
unfolding key_in keyed
returns-in-32758172534204788 c = rw (keys_7, c.in-32758172534204788.is)

pub returns-in-32758172669146725 : goal.returns-in-32758172669146725
unfolding key_in keyed
returns-in-32758172669146725 c = rw (keys_7, c.in-32758172669146725.is)

pub returns-in-32758172685269108 : goal.returns-in-32758172685269108
unfolding key_in keyed
returns-in-32758172685269108 c = rw (keys_7, c.in-32758172685269108.is)

pub returns-in-32758172702633081 : goal.returns-in-32758172702633081
unfolding key_in keyed
returns-in-32758172702633081 c = rw (keys_7, c.in-32758172702633081.is)

pub returns-in-32758172651451252 : goal.returns-in-32758172651451252
unfolding key_in keyed
returns-in-32758172651451252 c = rw (keys_7, c.in-32758172651451252.is)

pub returns-in_default : goal.returns-in_default
unfolding key_in keyed
returns-in_default c = rw (
  keys_7,
  ne_eqb _ _ c.in_default.in_default-own.rest.0.0.0.0.0.0.1,
  ne_eqb _ _ c.in_default.in_default-own.rest.0.0.0.0.0.1,
  ne_eqb _ _ c.in_default.in_default-own.rest.0.0.0.0.1,
  ne_eqb _ _ c.in_default.in_default-own.rest.0.0.0.1,
  ne_eqb _ _ c.in_default.in_default-own.rest.0.0.1,
  ne_eqb _ _ c.in_default.in_default-own.rest.0.1,
  ne_eqb _ _ c.in_default.in_default-own.rest.1,
)
