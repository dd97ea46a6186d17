-- What the argument readings called alone tell of an item or a range, in document 01's words, and what each case of the code's answers stands
-- for. "the item's kind and byte counts"; "range answers the atoms with their values, the separator, and where in the text each end's offsets
-- start and stop." "For each case of an enum answer, a definition gives this paper's number and values."
-- Assumes nothing.
use Rattle.std.specs.Prelude.{ℕ}
use Rattle.ranges.specs.declared.range.MoveDir1D.{MoveDir1D}
use Rattle.ranges.specs.declared.range.RangeEndingType.{RangeEndingType}
use Rattle.ranges.specs.declared.range.RangeEnding.{RangeEnding}
use Rattle.ranges.specs.declared.range.RangeSearchInit.{RangeSearchInit}
use Rattle.ranges.specs.declared.range.RangeSpec.{RangeSpec}
use Rattle.lists.specs.declared.option.OptionType.{OptionType}
use Rattle.reading.specs.declared.alone.FilenameType.{FilenameType}

-- file names ----------------------------------------------------------------------------------------------------------------------

-- "a lone `#` is Alternate, a lone `%` is Current"; or a name of so many bytes
pub data ToldFilename : Type 0 where
  alternate : ToldFilename
  current : ToldFilename
  name : ℕ → ToldFilename

unfoldable pub filename_told : FilenameType → ToldFilename
filename_told FilenameType.Alternate = ToldFilename.alternate
filename_told FilenameType.Current = ToldFilename.current
filename_told (FilenameType.Name n) = ToldFilename.name n

-- options -------------------------------------------------------------------------------------------------------------------------

-- a text of so many bytes; or a flag with a key of so many and no value; or one with a key of so many and a value of so many, perhaps 0
pub data ToldOption : Type 0 where
  positional : ℕ → ToldOption
  flag : ℕ → ToldOption
  valued : ℕ → ℕ → ToldOption

unfoldable pub option_told : OptionType → ToldOption
option_told (OptionType.Positional n) = ToldOption.positional n
option_told (OptionType.Flag k) = ToldOption.flag k
option_told (OptionType.FlagValue k v) = ToldOption.valued k v

-- ranges --------------------------------------------------------------------------------------------------------------------------

-- where a search goes: `\/` to the next, `\?` to the previous
pub data Direction : Type 0 where
  next : Direction
  previous : Direction

unfoldable pub direction_told : MoveDir1D → Direction
direction_told MoveDir1D.Next = Direction.next
direction_told MoveDir1D.Previous = Direction.previous

-- "digits; `.`; `%`; `$`; `\/`; `\?`; `\&`; `'` and a mark", the byte that names it. "A missing atom .. is Unspecified."
pub data Atom : Type 0 where
  unspecified : Atom
  digits : ℕ → Atom
  dot : Atom
  percent : Atom
  dollar : Atom
  search : Direction → Atom
  ampersand : Atom
  mark : ℕ → Atom

unfoldable pub atom_told : RangeEndingType → Atom
atom_told RangeEndingType.Unspecified = Atom.unspecified
atom_told (RangeEndingType.Absolute n) = Atom.digits n
atom_told RangeEndingType.Current = Atom.dot
atom_told RangeEndingType.All = Atom.percent
atom_told RangeEndingType.Last = Atom.dollar
atom_told (RangeEndingType.Search d) = Atom.search (direction_told d)
atom_told RangeEndingType.SubPatSearch = Atom.ampersand
atom_told (RangeEndingType.Mark b) = Atom.mark b

-- an end: its atom, and where its offsets start and stop
pub record ToldEnd : Type 0 where
  pub atom : Atom
  pub from : ℕ
  pub to : ℕ

unfoldable pub end_told : RangeEnding → ToldEnd
end_told e = record { atom = atom_told e.atom; from = e.from; to = e.to }

-- `,` or `;`
pub data Separator : Type 0 where
  comma : Separator
  semicolon : Separator

unfoldable pub separator_told : RangeSearchInit → Separator
separator_told RangeSearchInit.Cursor = Separator.comma
separator_told RangeSearchInit.Start = Separator.semicolon

-- "an end, or two ends parted by `,` or `;`"
pub data ToldRange : Type 0 where
  single : ToldEnd → ToldRange
  double : ToldEnd → Separator → ToldEnd → ToldRange

unfoldable pub spec_told : RangeSpec → ToldRange
spec_told (RangeSpec.Single a) = ToldRange.single (end_told a)
spec_told (RangeSpec.Double a b s) = ToldRange.double (end_told a) (separator_told s) (end_told b)
