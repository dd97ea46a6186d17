-- `words::word8` meets its contract: each number is that of one shipped word of this length.
-- Assumes nothing.
use borrow.Author.Tests.{ne_eqb}
use Rattle.words.proofs.Tables.{keys_8}
use Rattle.words.specs.Keys.{key_in, keyed}
use Rattle.words.proofs.words.word8.Goals as goal

pub returns-in-8386092160301101925 : goal.returns-in-8386092160301101925
unfolding key_in keyed
returns-in-8386092160301101925 c = rw (keys_8, c.in-8386092160301101925.is)

pub returns-in-8386092173135868788 : goal.returns-in-8386092173135868788
unfolding key_in keyed
returns-in-8386092173135868788 c = rw (keys_8, c.in-8386092173135868788.is)

pub returns-in-8531350913433166188 : goal.returns-in-8531350913433166188
unfolding key_in keyed
returns-in-8531350913433166188 c = rw (keys_8, c.in-8531350913433166188.is)

pub returns-in_default : goal.returns-in_default
unfolding key_in keyed
returns-in_default c = rw (
  keys_8,
  ne_eqb _ _ c.in_default.in_default-own.rest.0.0.1,
  ne_eqb _ _ c.in_default.in_default-own.rest.0.1,
  ne_eqb _ _ c.in_default.in_default-own.rest.1,
)
