-- `words::word9` meets its contract: each pair of numbers is that of one shipped word of this length.
-- Assumes nothing.
use borrow.Author.Tests.{ne_eqb}
use Rattle.words.proofs.Tables.{keys_9}
use Rattle.words.specs.Keys.{key_in, keyed}
use Rattle.words.proofs.words.word9.Goals as goal

pub returns-in-8386092224608692590 : goal.returns-in-8386092224608692590
unfolding key_in keyed
returns-in-8386092224608692590 c = rw (keys_9, c.in-8386092224608692590.is, c.ended.ensures)

pub returns-in-7810761778780073846 : goal.returns-in-7810761778780073846
unfolding key_in keyed
returns-in-7810761778780073846 c = rw (keys_9, c.in-7810761778780073846.is, c.ended-in-7810761778780073846.ensures)

pub returns-in-7017293723695080806 : goal.returns-in-7017293723695080806
unfolding key_in keyed
returns-in-7017293723695080806 c = rw (keys_9, c.in-7017293723695080806.is, c.ended-in-7017293723695080806.ensures)

pub returns-in_default : goal.returns-in_default
unfolding key_in keyed
returns-in_default c = rw (keys_9, ne_eqb _ _ c.in_default.in_default-own.rest.0.0.1, ne_eqb _ _ c.in_default.in_default-own.rest.0.1, ne_eqb _ _ c.in_default.in_default-own.rest.1)
