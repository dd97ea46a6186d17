-- The text that the last reading of a line read, and the place of a word that no command has.
-- Assumes nothing.
use Rattle.std.specs.Prelude.{◌≡◌, ℕ, ◌-◌, List, Option, IsSomeAnd}
use Rattle.scan.specs.Scan.{part_of}
use Rattle.words.specs.Words.{Row}
use Rattle.context.specs.Context.{fresh}
use Rattle.context.specs.declared.context.CommandContext.{CommandContext}
use Rattle.commands.specs.Run.{Out, line_from}
use Rattle.run.specs.Reply.{after}
use Rattle.run.specs.Held.{Held}
use Rattle.spots.specs.declared.spot.Spot.{Spot}

-- after n readings of the line, each of them of a prefix, its run goes on with the text from f up to t, in some context
pub record Reached (table : List Row) (line : List ℕ) (n f t : ℕ) : Type 0 where
  pub context : CommandContext
  pub stop : ℕ
  pub held : Held table line context n f t stop

-- where a line has m readings, with whatever words, the last of them read the text from f up to t
abbrev pub LastText : List ℕ → ℕ → ℕ → ℕ → Type 0
LastText line m f t = (table : List Row) → (line_from table fresh line).readings ≡ m → Reached table line (m - 1) f t

-- where the line ends after m readings with a word that no command has, the place r is that of the word
abbrev pub UnknownAt : List ℕ → ℕ → Option Spot → Type 0
UnknownAt line m r =
    (table : List Row) (w : List ℕ) →
    line_from table fresh line ≡ after m (Out.unknown w) → IsSomeAnd r (λ s. part_of line s.start s.stop ≡ w)
