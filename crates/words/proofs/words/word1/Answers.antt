-- `words::word1` meets its contract: each number is that of one shipped word of this length.
-- Assumes nothing.
use borrow.Author.Tests.{ne_eqb}
use Rattle.words.proofs.Tables.{keys_1}
use Rattle.words.specs.Keys.{key_in, keyed}
use Rattle.words.proofs.words.word1.Goals as goal

pub returns-in-126 : goal.returns-in-126
unfolding key_in keyed
returns-in-126 c = rw (keys_1, c.in-126.is)

pub returns-in-114 : goal.returns-in-114
unfolding key_in keyed
returns-in-114 c = rw (keys_1, c.in-114.is)

pub returns-in-112 : goal.returns-in-112
unfolding key_in keyed
returns-in-112 c = rw (keys_1, c.in-112.is)

pub returns-in-115 : goal.returns-in-115
unfolding key_in keyed
returns-in-115 c = rw (keys_1, c.in-115.is)

pub returns-in-113 : goal.returns-in-113
unfolding key_in keyed
returns-in-113 c = rw (keys_1, c.in-113.is)

pub returns-in-119 : goal.returns-in-119
unfolding key_in keyed
returns-in-119 c = rw (keys_1, c.in-119.is)

pub returns-in-33 : goal.returns-in-33
unfolding key_in keyed
returns-in-33 c = rw (keys_1, c.in-33.is)

pub returns-in-38 : goal.returns-in-38
unfolding key_in keyed
returns-in-38 c = rw (keys_1, c.in-38.is)

pub returns-in_default : goal.returns-in_default
unfolding key_in keyed
returns-in_default c = rw (
  keys_1,
  ne_eqb _ _ c.in_default.in_default-own.rest.0.0.0.0.0.0.0.1,
  ne_eqb _ _ c.in_default.in_default-own.rest.0.0.0.0.0.0.1,
  ne_eqb _ _ c.in_default.in_default-own.rest.0.0.0.0.0.1,
  ne_eqb _ _ c.in_default.in_default-own.rest.0.0.0.0.1,
  ne_eqb _ _ c.in_default.in_default-own.rest.0.0.0.1,
  ne_eqb _ _ c.in_default.in_default-own.rest.0.0.1,
  ne_eqb _ _ c.in_default.in_default-own.rest.0.1,
  ne_eqb _ _ c.in_default.in_default-own.rest.1,
)
