-- The context after a list of prefixes: that of its last tab, its last axis and its last side prefix, and no other. Document 01, "For
-- demand 3": "each over any earlier one of its kind".
-- Assumes nothing.
use Rattle.std.specs.Prelude.{◌≡◌, ℕ, Ok, Err, Option, Some, None}
use Rattle.std.proofs.Math.Path.{refl, ap}
use Rattle.std.proofs.Common.{◌∙◌}
use mathlib.Core.List.{List, [], ◌∷◌}
use Rattle.scan.specs.Scan.{part_of}
use Rattle.ranges.specs.Range.{RangeRead}
use Rattle.reading.specs.Line.{reading_of, CommandRead}
use Rattle.focus.specs.Focus.{focus_of, Focused}
use Rattle.words.specs.Words.{Row}
use Rattle.context.specs.Context.{fresh}
use Rattle.context.specs.declared.context.CommandContext.{CommandContext}
use Rattle.commands.specs.Run.{role_named, trim}
use Rattle.commands.specs.declared.next.Role.{Role}
use Rattle.demands.specs.Statement.{sets_tab, sets_by, or_set, read_sets, sets, context_from, last_tab, last_axis, last_side, lasts}
use Rattle.actions.specs.declared.action.Axis.{Axis}
use Rattle.actions.specs.declared.action.Side.{Side}

-- what is set in a over what is set in x
abbrev over : CommandContext → CommandContext → CommandContext
over a x =
    record {
      tab = or_set a.tab x.tab;
      axis = or_set a.axis x.axis;
      rel = or_set a.rel x.rel;
      axis_default = x.axis_default;
      rel_default = x.rel_default;
      open_flags = x.open_flags;
    }

set_assoc : {A : Type 0} (a b c : Option A) → or_set (or_set a b) c ≡ or_set a (or_set b c)
set_assoc (Some x) b c = refl
set_assoc None b c = refl

set_none : {A : Type 0} (a : Option A) → or_set a None ≡ a
set_none (Some x) = refl
set_none None = refl

over_assoc : (a b x : CommandContext) → over a (over b x) ≡ over (over a b) x
over_assoc a b x = rw (set_assoc a.tab b.tab x.tab, set_assoc a.axis b.axis x.axis, set_assoc a.rel b.rel x.rel)

-- what a prefix sets is the same in every context
focus_over : (f : Focused) (x : CommandContext) → sets_tab f x ≡ over (sets_tab f fresh) x
unfolding sets_tab
focus_over (Ok f) x = refl
focus_over (Err e) x = refl

role_over : (s : List ℕ) (g : RangeRead) (r : Role) (x : CommandContext) → sets_by s g r x ≡ over (sets_by s g r fresh) x
unfolding sets_by
role_over s g Role.Tab x = focus_over (focus_of s g) x
role_over s g (Role.Axis a) x = refl
role_over s g (Role.Side d) x = refl
role_over s g Role.Action x = refl

module _ (table : List Row) where
  read_over : (s : List ℕ) (r : CommandRead) (x : CommandContext) → read_sets table s r x ≡ over (read_sets table s r fresh) x
  unfolding read_sets
  read_over s (Ok d) x = role_over s d.range (role_named table (part_of s d.word d.end)) x
  read_over s (Err why) x = refl

  sets_over : (p : List ℕ) (x : CommandContext) → sets table p x ≡ over (sets table p fresh) x
  unfolding sets
  sets_over p x = read_over (trim p) (reading_of (trim p)) x

  context_over : (ps : List (List ℕ)) (x : CommandContext) → context_from table x ps ≡ over (lasts table ps) x
  unfolding context_from last_tab last_axis last_side
  context_over [] x = refl
  context_over (p ∷ ps) x =
      context_over ps (sets table p x)
      ∙ ap (over (lasts table ps)) (sets_over p x)
      ∙ over_assoc (lasts table ps) (sets table p fresh) x

  pub context_last : (ps : List (List ℕ)) → context_from table fresh ps ≡ lasts table ps
  context_last ps = context_over ps fresh ∙ rw (set_none (last_tab table ps), set_none (last_axis table ps), set_none (last_side table ps))
