-- What the code tells of an option is what document 01 tells of it.
-- Assumes nothing.
use Rattle.std.specs.Prelude.{◌≡◌, refl}
use Rattle.lists.specs.Lists.{OptionItem}
use Rattle.lists.specs.Listed.{OptionSeen}
use Rattle.reading.specs.Told.{option_told}
use Rattle.reading.specs.Alone.{option_counts}

-- an option's kind and byte counts, by way of the code's enum
pub option_told_lem : (o : OptionItem) → option_told (OptionSeen o) ≡ option_counts o
unfolding option_told OptionSeen option_counts
option_told_lem (OptionItem.positional t) = refl
option_told_lem (OptionItem.flag k) = refl
option_told_lem (OptionItem.valued k v) = refl
