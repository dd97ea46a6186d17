-- Demand 3, over `line`, the definition of demand 2, and any table of words. Document 01, "For demand 3": what a list of prefixes does
-- before a last text, as "a single claim about the list, not one for each prefix", and how many readings a line can take.
-- These are the statements; proofs/Demand3.antt has the theorems, for every session.
-- Assumes nothing.
use Rattle.std.specs.Prelude.{◌≡◌, true, List, [], ◌∷◌, ◌++◌, ℕ, ◌+◌, ◌≤◌, ◌/◌, length, Ok, Err, Option, Some, None}
use Rattle.limits.specs.Limits.{line_limit}
use Rattle.scan.specs.Scan.{part_of}
use Rattle.utf8.specs.Utf8.{is_utf8}
use Rattle.ranges.specs.Range.{RangeRead}
use Rattle.reading.specs.Alone.{line_room}
use Rattle.reading.specs.Line.{reading_of, CommandRead}
use Rattle.reading.specs.Behind.{NoNewline}
use Rattle.reading.specs.declared.line.CommandDescription.{CommandDescription}
use Rattle.focus.specs.Focus.{focus_of, Focused}
use Rattle.words.specs.Words.{Row}
use Rattle.context.specs.Context.{fresh, set_tab, set_axis, set_side}
use Rattle.context.specs.declared.context.CommandContext.{CommandContext}
use Rattle.commands.specs.Handle.{IsPrefix}
use Rattle.commands.specs.Run.{Out, Answer, role_named, trim}
use Rattle.commands.specs.Line.{line, store_after}
use Rattle.commands.specs.declared.next.Role.{Role}
use Rattle.actions.specs.declared.action.FocusChange.{FocusChange}
use Rattle.actions.specs.declared.action.Axis.{Axis}
use Rattle.actions.specs.declared.action.Side.{Side}

-- lines -----------------------------------------------------------------------------------------------------------------------------

-- the line l passes the checks 1, 12 and 2
pub record Passes (l store : List ℕ) : Type 0 where
  pub short : length l ≤ line_limit
  pub room : line_room l ≤ length store
  pub good : is_utf8 l ≡ true

-- the prefixes, one space after each, then the last text
abbrev pub joined : List (List ℕ) → List ℕ → List ℕ
joined [] t = t
joined (p ∷ ps) t = p ++ 32 ∷ joined ps t

-- not refused: nothing or an action
abbrev pub Accepted : Out → Type 0
Accepted Out.nothing = Unit {0}
Accepted (Out.act a) = Unit {0}
Accepted (Out.refused n) = ⊥
Accepted (Out.unknown w) = ⊥

-- what prefixes set ------------------------------------------------------------------------------------------------------------------

-- the tab, where tab's handler accepts its range
unfoldable pub sets_tab : Focused → CommandContext → CommandContext
sets_tab (Ok f) x = set_tab f x
sets_tab (Err e) x = x

-- "tab sets the tab from its own range as its handler does, an axis prefix the axis, a side prefix the side"
unfoldable pub sets_by : List ℕ → RangeRead → Role → CommandContext → CommandContext
sets_by s g Role.Tab x = sets_tab (focus_of s g) x
sets_by s g (Role.Axis a) x = set_axis a x
sets_by s g (Role.Side d) x = set_side d x
sets_by s g Role.Action x = x

-- what one of them set, or else what another did: of a tab, an axis or a side
abbrev pub or_set : {A : Type 0} → Option A → Option A → Option A
or_set (Some a) b = Some a
or_set None b = b

module _ (table : List Row) where
  -- "a word names a prefix if lookup in that session leads it to one"
  abbrev pub NamesPrefix : List ℕ → Type 0
  NamesPrefix w = IsPrefix (role_named table w)

  -- demand 2's definition of the line l on a store, started in the context x
  abbrev pub typed : CommandContext → List ℕ → List ℕ → Answer
  typed x l store = line table x l (length store)

  -- "A prefix as typed is spaces, colons, range, word and bang, with no argument of its own": so the first reading of the line p says; its
  -- word names a prefix; and it is accepted when "typed alone", that is "as a line of its own, on that session and store"
  pub record Alone (store p : List ℕ) : Type 0 where
    pub its : CommandDescription
    pub reads : reading_of (trim p) ≡ Ok its
    pub no_argument : its.argument ≡ its.stop
    pub names : NamesPrefix (part_of (trim p) its.word its.end)
    pub accepted : Accepted (typed fresh p store).out

  abbrev pub AllAlone : List ℕ → List (List ℕ) → Type 0
  AllAlone store [] = Unit {0}
  AllAlone store (p ∷ ps) = Alone store p × AllAlone store ps

  -- the context --------------------------------------------------------------------------------------------------------------------

  -- what a reading of the text s sets
  unfoldable pub read_sets : List ℕ → CommandRead → CommandContext → CommandContext
  read_sets s (Ok d) x = sets_by s d.range (role_named table (part_of s d.word d.end)) x
  read_sets s (Err why) x = x

  -- what the prefix p sets
  unfoldable pub sets : List ℕ → CommandContext → CommandContext
  sets p x = read_sets (trim p) (reading_of (trim p)) x

  -- "through the list in order .. each over any earlier one of its kind"
  unfoldable pub context_from : CommandContext → List (List ℕ) → CommandContext
  context_from x [] = x
  context_from x (p ∷ ps) = context_from (sets p x) ps

  -- what the last tab prefix of a list sets, its last axis prefix and its last side prefix
  unfoldable pub last_tab : List (List ℕ) → Option FocusChange
  last_tab [] = None
  last_tab (p ∷ ps) = or_set (last_tab ps) (sets p fresh).tab

  unfoldable pub last_axis : List (List ℕ) → Option Axis
  last_axis [] = None
  last_axis (p ∷ ps) = or_set (last_axis ps) (sets p fresh).axis

  unfoldable pub last_side : List (List ℕ) → Option Side
  last_side [] = None
  last_side (p ∷ ps) = or_set (last_side ps) (sets p fresh).rel

  -- those three, and all else as in the fresh context
  abbrev pub lasts : List (List ℕ) → CommandContext
  lasts ps =
      record {
        tab = last_tab ps;
        axis = last_axis ps;
        rel = last_side ps;
        axis_default = fresh.axis_default;
        rel_default = fresh.rel_default;
        open_flags = fresh.open_flags;
      }

  -- the claim about a list ----------------------------------------------------------------------------------------------------------

  pub record ListClaim (ps : List (List ℕ)) (t store : List ℕ) : Type 0 where
    -- the context "fresh, then through the list in order" is that of the last tab, the last axis and the last side prefix, and no other
    pub last_of_each : context_from fresh ps ≡ lasts ps
    -- the joined line ends as the last text does when the definition starts on it in this context
    pub same_out : (typed fresh (joined ps t) store).out ≡ (typed (context_from fresh ps) t store).out
    -- with the same bytes in the whole store
    pub same_store : store_after (typed fresh (joined ps t) store).out store ≡ store_after (typed (context_from fresh ps) t store).out store
    -- "one on the line, one on the argument of each prefix accepted in it; the last text's are counted with it typed alone"
    pub counted : (typed fresh (joined ps t) store).readings ≡ length ps + (typed fresh t store).readings

  abbrev pub AboutLists : Type 0
  AboutLists =
      (ps : List (List ℕ)) (t store : List ℕ) → AllAlone store ps → NoNewline (joined ps t) → Passes (joined ps t) store → ListClaim ps t store

  -- the bound on readings -------------------------------------------------------------------------------------------------------------

  -- m is the length of the shortest word that names a prefix
  pub record Shortest (m : ℕ) : Type 0 where
    pub a_word : List ℕ
    pub names : NamesPrefix a_word
    pub its_length : length a_word ≡ m
    pub least : (w : List ℕ) → NamesPrefix w → m ≤ length w

  pub record Bounded (l store : List ℕ) : Type 0 where
    pub by_shortest : (m : ℕ) → Shortest m → (typed fresh l store).readings ≤ (length l + 1) / (m + 1) + 1
    -- where no word names a prefix
    pub no_prefix : ((w : List ℕ) → NamesPrefix w → ⊥) → (typed fresh l store).readings ≤ 1

  abbrev pub AboutReadings : Type 0
  AboutReadings = (l store : List ℕ) → Bounded l store
