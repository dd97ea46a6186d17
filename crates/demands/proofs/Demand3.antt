-- Demand 3, for every session: its added aliases stand before the shipped words. Document 01, "For demand 3"; the claims are those of
-- Statement.antt, over `line`, the definition of demand 2.
-- Assumes nothing.
use Rattle.std.specs.Prelude.{◌≡◌, refl, List, [], ℕ, ◌+◌, ◌≤◌, ◌/◌, length}
use Rattle.std.proofs.Math.Option.{Option, none, some}
use Rattle.words.specs.Words.{Row, shipped, table_with}
use Rattle.context.specs.Context.{fresh}
use Rattle.demands.proofs.Bound.{about_readings}
use Rattle.demands.proofs.Prefixes.{about_lists}
use Rattle.demands.specs.Shortest.{shortest, limit, Aliases}
use Rattle.demands.proofs.ShortestLaws.{shortest_shipped, shortest_none, shortest_some, bang_none}
use Rattle.demands.specs.Statement.{typed, AboutLists, AboutReadings}

-- prefixes before a last text
pub demand3_lists : (added : List Row) → AboutLists (table_with added)
demand3_lists added = about_lists (table_with added)

-- the readings of a line
pub demand3_readings : (added : List Row) → Aliases added → AboutReadings (table_with added)
demand3_readings added h = about_readings (table_with added) (bang_none added h)

-- the same, with the shortest word's length computed
pub demand3_limit : (added : List Row) → Aliases added → (l store : List ℕ) →
    (typed (table_with added) fresh l store).readings ≤ limit (shortest (table_with added)) (length l)
demand3_limit added h l store = go (shortest (table_with added)) refl
  where
    go : (o : Option ℕ) → shortest (table_with added) ≡ o → (typed (table_with added) fresh l store).readings ≤ limit o (length l)
    go none e = (demand3_readings added h l store).no_prefix (shortest_none (table_with added) e)
    go (some m) e = (demand3_readings added h l store).by_shortest m (shortest_some (table_with added) m e)

-- as shipped, a prefix word has three bytes at least
pub demand3_shipped : (l store : List ℕ) → (typed shipped fresh l store).readings ≤ (length l + 1) / 4 + 1
demand3_shipped l store = (demand3_readings [] tt l store).by_shortest 3 (shortest_some shipped 3 shortest_shipped)
