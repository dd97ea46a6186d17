-- `words::word6` meets its contract: each number is that of one shipped word of this length.
-- Assumes nothing.
use borrow.Author.Tests.{ne_eqb}
use Rattle.words.proofs.Tables.{keys_6}
use Rattle.words.specs.Keys.{key_in, keyed}
use Rattle.words.proofs.words.word6.Goals as goal

pub returns-in-127961612051831 : goal.returns-in-127961612051831
unfolding key_in keyed
returns-in-127961612051831 c = rw (keys_6, c.in-127961612051831.is)

pub returns-in-127961611528562 : goal.returns-in-127961611528562
unfolding key_in keyed
returns-in-127961611528562 c = rw (keys_6, c.in-127961611528562.is)

pub returns-in-125797032031330 : goal.returns-in-125797032031330
unfolding key_in keyed
returns-in-125797032031330 c = rw (keys_6, c.in-125797032031330.is)

pub returns-in-125780053555813 : goal.returns-in-125780053555813
unfolding key_in keyed
returns-in-125780053555813 c = rw (keys_6, c.in-125780053555813.is)

pub returns-in-130238179469684 : goal.returns-in-130238179469684
unfolding key_in keyed
returns-in-130238179469684 c = rw (keys_6, c.in-130238179469684.is)

pub returns-in_default : goal.returns-in_default
unfolding key_in keyed
returns-in_default c = rw (
  keys_6,
  ne_eqb _ _ c.in_default.in_default-own.rest.0.0.0.0.1,
  ne_eqb _ _ c.in_default.in_default-own.rest.0.0.0.1,
  ne_eqb _ _ c.in_default.in_default-own.rest.0.0.1,
  ne_eqb _ _ c.in_default.in_default-own.rest.0.1,
  ne_eqb _ _ c.in_default.in_default-own.rest.1,
)
