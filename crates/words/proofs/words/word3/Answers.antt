-- `words::word3` meets its contract: each number is that of one shipped word of this length.
-- Assumes nothing.
use borrow.Author.Tests.{ne_eqb}
use Rattle.words.proofs.Tables.{keys_3}
use Rattle.words.specs.Keys.{key_in, keyed}
use Rattle.words.proofs.words.word3.Goals as goal

pub returns-in-6515823 : goal.returns-in-6515823
unfolding key_in keyed
returns-in-6515823 c = rw (keys_3, c.in-6515823.is)

pub returns-in-7497075 : goal.returns-in-7497075
unfolding key_in keyed
returns-in-7497075 c = rw (keys_3, c.in-7497075.is)

pub returns-in-7762800 : goal.returns-in-7762800
unfolding key_in keyed
returns-in-7762800 c = rw (keys_3, c.in-7762800.is)

pub returns-in-7760229 : goal.returns-in-7760229
unfolding key_in keyed
returns-in-7760229 c = rw (keys_3, c.in-7760229.is)

pub returns-in-6844274 : goal.returns-in-6844274
unfolding key_in keyed
returns-in-6844274 c = rw (keys_3, c.in-6844274.is)

pub returns-in-6382191 : goal.returns-in-6382191
unfolding key_in keyed
returns-in-6382191 c = rw (keys_3, c.in-6382191.is)

pub returns-in-6448492 : goal.returns-in-6448492
unfolding key_in keyed
returns-in-6448492 c = rw (keys_3, c.in-6448492.is)

pub returns-in-7627106 : goal.returns-in-7627106
unfolding key_in keyed
returns-in-7627106 c = rw (keys_3, c.in-7627106.is)

pub returns-in_default : goal.returns-in_default
unfolding key_in keyed
returns-in_default c = rw (
  keys_3,
  ne_eqb _ _ c.in_default.in_default-own.rest.0.0.0.0.0.0.0.1,
  ne_eqb _ _ c.in_default.in_default-own.rest.0.0.0.0.0.0.1,
  ne_eqb _ _ c.in_default.in_default-own.rest.0.0.0.0.0.1,
  ne_eqb _ _ c.in_default.in_default-own.rest.0.0.0.0.1,
  ne_eqb _ _ c.in_default.in_default-own.rest.0.0.0.1,
  ne_eqb _ _ c.in_default.in_default-own.rest.0.0.1,
  ne_eqb _ _ c.in_default.in_default-own.rest.0.1,
  ne_eqb _ _ c.in_default.in_default-own.rest.1,
)
