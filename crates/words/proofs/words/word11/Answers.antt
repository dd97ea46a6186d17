-- `words::word11` meets its contract: each pair of numbers is that of one shipped word of this length.
-- Assumes nothing.
use borrow.Author.Tests.{ne_eqb}
use Rattle.words.proofs.Tables.{keys_11}
use Rattle.words.specs.Keys.{key_in, keyed}
use Rattle.words.proofs.words.word11.Goals as goal

pub returns-in-8386092216235685481 : goal.returns-in-8386092216235685481
unfolding key_in keyed
returns-in-8386092216235685481 c = rw (keys_11, c.in-8386092216235685481.is, c.ended.ensures)

pub returns-in_default : goal.returns-in_default
unfolding key_in keyed
returns-in_default c = rw (keys_11, ne_eqb _ _ c.in_default.in_default-own.rest.1)
