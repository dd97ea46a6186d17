-- `words::word4` meets its contract: each number is that of one shipped word of this length.
-- Assumes nothing.
use borrow.Author.Tests.{ne_eqb}
use Rattle.words.proofs.Tables.{keys_4}
use Rattle.words.specs.Keys.{key_in, keyed}
use Rattle.words.proofs.words.word4.Goals as goal

pub returns-in-1869507705 : goal.returns-in-1869507705
unfolding key_in keyed
returns-in-1869507705 c = rw (keys_4, c.in-1869507705.is)

pub returns-in-1902210156 : goal.returns-in-1902210156
unfolding key_in keyed
returns-in-1902210156 c = rw (keys_4, c.in-1902210156.is)

pub returns-in-1952539235 : goal.returns-in-1952539235
unfolding key_in keyed
returns-in-1952539235 c = rw (keys_4, c.in-1952539235.is)

pub returns-in-1952539237 : goal.returns-in-1952539237
unfolding key_in keyed
returns-in-1952539237 c = rw (keys_4, c.in-1952539237.is)

pub returns-in-1952539245 : goal.returns-in-1952539245
unfolding key_in keyed
returns-in-1952539245 c = rw (keys_4, c.in-1952539245.is)

pub returns-in-1952539246 : goal.returns-in-1952539246
unfolding key_in keyed
returns-in-1952539246 c = rw (keys_4, c.in-1952539246.is)

pub returns-in-1952539247 : goal.returns-in-1952539247
unfolding key_in keyed
returns-in-1952539247 c = rw (keys_4, c.in-1952539247.is)

pub returns-in-1952539248 : goal.returns-in-1952539248
unfolding key_in keyed
returns-in-1952539248 c = rw (keys_4, c.in-1952539248.is)

pub returns-in-1952539214 : goal.returns-in-1952539214
unfolding key_in keyed
returns-in-1952539214 c = rw (keys_4, c.in-1952539214.is)

pub returns-in-1952539250 : goal.returns-in-1952539250
unfolding key_in keyed
returns-in-1952539250 c = rw (keys_4, c.in-1952539250.is)

pub returns-in-1952539244 : goal.returns-in-1952539244
unfolding key_in keyed
returns-in-1952539244 c = rw (keys_4, c.in-1952539244.is)

pub returns-in-1986359924 : goal.returns-in-1986359924
unfolding key_in keyed
returns-in-1986359924 c = rw (keys_4, c.in-1986359924.is)

pub returns-in-1919246692 : goal.returns-in-1919246692
unfolding key_in keyed
returns-in-1919246692 c = rw (keys_4, c.in-1919246692.is)

pub returns-in-1903520116 : goal.returns-in-1903520116
unfolding key_in keyed
returns-in-1903520116 c = rw (keys_4, c.in-1903520116.is)

pub returns-in-1986618743 : goal.returns-in-1986618743
unfolding key_in keyed
returns-in-1986618743 c = rw (keys_4, c.in-1986618743.is)

pub returns-in-2002873452 : goal.returns-in-2002873452
unfolding key_in keyed
returns-in-2002873452 c = rw (keys_4, c.in-2002873452.is)

pub returns-in_default : goal.returns-in_default
unfolding key_in keyed
returns-in_default c = rw (
  keys_4,
  ne_eqb _ _ c.in_default.in_default-own.rest.0.0.0.0.0.0.0.0.0.0.0.0.0.0.0.1,
  ne_eqb _ _ c.in_default.in_default-own.rest.0.0.0.0.0.0.0.0.0.0.0.0.0.0.1,
  ne_eqb _ _ c.in_default.in_default-own.rest.0.0.0.0.0.0.0.0.0.0.0.0.0.1,
  ne_eqb _ _ c.in_default.in_default-own.rest.0.0.0.0.0.0.0.0.0.0.0.0.1,
  ne_eqb _ _ c.in_default.in_default-own.rest.0.0.0.0.0.0.0.0.0.0.0.1,
  ne_eqb _ _ c.in_default.in_default-own.rest.0.0.0.0.0.0.0.0.0.0.1,
  ne_eqb _ _ c.in_default.in_default-own.rest.0.0.0.0.0.0.0.0.0.1,
  ne_eqb _ _ c.in_default.in_default-own.rest.0.0.0.0.0.0.0.0.1,
  ne_eqb _ _ c.in_default.in_default-own.rest.0.0.0.0.0.0.0.1,
  ne_eqb _ _ c.in_default.in_default-own.rest.0.0.0.0.0.0.1,
  ne_eqb _ _ c.in_default.in_default-own.rest.0.0.0.0.0.1,
  ne_eqb _ _ c.in_default.in_default-own.rest.0.0.0.0.1,
  ne_eqb _ _ c.in_default.in_default-own.rest.0.0.0.1,
  ne_eqb _ _ c.in_default.in_default-own.rest.0.0.1,
  ne_eqb _ _ c.in_default.in_default-own.rest.0.1,
  ne_eqb _ _ c.in_default.in_default-own.rest.1,
)
