-- Laws of the text that a line's last reading read: where the walk over prefixes starts and goes on, and the word that ends it.
-- Assumes nothing.
use Rattle.std.specs.Prelude.{◌≡◌, ℕ, ◌+◌, ◌-◌, ◌<◌, ◌≤◌, Bool, true, false, cond, List, length, ◌==◌, ◌≢◌, Ok, Err, Option, Some, None}
use Rattle.std.proofs.Math.Path.{refl, ap}
use Rattle.std.proofs.Common.{◌∙◌}
use native.Mathlib.Omega.{arith}
use Rattle.std.proofs.lemmas.Bool.{eqb-false}
use Rattle.scan.specs.Bytes.{is_space, is_text}
use Rattle.scan.specs.Scan.{run_at, part_of}
use Rattle.scan.specs.RunLaws.{run_at_le, run_at_within}
use Rattle.scan.specs.PartLaws.{part_length}
use Rattle.ranges.specs.Bounds.{In}
use Rattle.reading.specs.Line.{reading_of, CommandRead}
use Rattle.reading.specs.LineLaws.{Parsed, parsed, places}
use Rattle.reading.specs.declared.line.CommandDescription.{CommandDescription}
use Rattle.scanner.specs.Tokens.{lead_word, lead_of, pieces}
use Rattle.scanner.specs.LeadLaws.{lead_inside, lead_upto, lead_parsed}
use Rattle.scanner.specs.declared.token.Lead.{Lead}
use Rattle.context.specs.Context.{fresh}
use Rattle.context.specs.declared.context.CommandContext.{CommandContext}
use Rattle.focus.specs.Focus.{focus_of, Focused}
use Rattle.handlers.specs.Done.{Done}
use Rattle.words.specs.Words.{Row, lookup_in}
use Rattle.commands.specs.Handle.{role_of, handle_of}
use Rattle.commands.specs.Run.{by_focus, by_role, by_name, by_reading, decide, Out, step, run_on, line_from}
use Rattle.commands.specs.RunLaws.{run_is, prefix_of}
use Rattle.commands.specs.declared.next.Change.{Change}
use Rattle.commands.specs.declared.next.Next.{Next}
use Rattle.commands.specs.declared.next.Role.{Role}
use Rattle.run.specs.Reply.{after, done_at}
use Rattle.run.specs.Held.{held_start, held_next, held_empty, held_refused, held_unknown, held_runs, held_again}
use Rattle.spots.specs.Text.{Reached, LastText}

-- the lead of a text ---------------------------------------------------------------------------------------------------------------------

-- its places stand in the text, in order
pub lead_places : (s : List ℕ) → ((lead_of s).range ≤ (lead_of s).word) × (((lead_of s).word ≤ (lead_of s).argument) × ((lead_of s).argument ≤ length s))
unfolding pieces
lead_places s =
    let u = (lead_upto s).1.1.1.1 in
    (u.0, (omega (arith, u.1.0, u.1.1.0, u.1.1.1.0, u.1.1.1.1.0), lead_inside s))

-- a word that no command has -------------------------------------------------------------------------------------------------------------

focus_known : (d : CommandDescription) (f : Focused) (a e : ℕ) → by_focus d f ≢ Next.Unknown a e
unfolding by_focus
focus_known d (Ok f) a e h = let z : ◌≡◌ {A = ℕ} 0 1 = cc in omega arith
focus_known d (Err i) a e h = let z : ◌≡◌ {A = ℕ} 0 1 = cc in omega arith

role_known : (s : List ℕ) (d : CommandDescription) (i : ℕ) (r : Role) (a e : ℕ) → by_role s d i r ≢ Next.Unknown a e
unfolding by_role
role_known s d i Role.Tab a e h = focus_known d (focus_of s d.range) a e h
role_known s d i (Role.Axis x) a e h = let z : ◌≡◌ {A = ℕ} 0 1 = cc in omega arith
role_known s d i (Role.Side x) a e h = let z : ◌≡◌ {A = ℕ} 0 1 = cc in omega arith
role_known s d i Role.Action a e h = let z : ◌≡◌ {A = ℕ} 0 1 = cc in omega arith

-- the reading of s has the word from a up to e, which has bytes
record Worded (s : List ℕ) (a e : ℕ) : Type 0 where
  its : CommandDescription
  its_parts : Parsed s its
  wordy : a < e
  begins : its.word ≡ a
  stops : its.end ≡ e

module _ (table : List Row) where
  worded_of : (s : List ℕ) (a e : ℕ) → decide table s ≡ Next.Unknown a e → Worded s a e
  unfolding decide by_reading by_name
  worded_of s a e h = go (reading_of s) refl h
    where
      named : (d : CommandDescription) (m : Option ℕ) → Parsed s d → d.word < d.end → by_name s d m ≡ Next.Unknown a e → Worded s a e
      named d (Some i) p z g = absurd (role_known s d i (role_of i) a e g)
      named d None p z g =
          let b : d.word ≡ a = cc in
          let k : d.end ≡ e = cc in
          record { its = d; its_parts = p; wordy = omega arith; begins = b; stops = k }

      go : (r : CommandRead) → reading_of s ≡ r → by_reading table s r ≡ Next.Unknown a e → Worded s a e
      go (Err why) q x = let z : ◌≡◌ {A = ℕ} 0 1 = cc in absurd (omega arith)
      go (Ok d) q x = by (d.word == d.end) refl x
        where
          by : (b : Bool) → (d.word == d.end) ≡ b → cond b Next.Empty (by_name s d (lookup_in table (part_of s d.word d.end))) ≡ Next.Unknown a e → Worded s a e
          by true y g = let z : ◌≡◌ {A = ℕ} 0 1 = cc in absurd (omega arith)
          by false y g =
              let p = parsed s d q in
              let w = (places s d p).its_word in
              let n : (d.word ≢ d.end) = eqb-false d.word d.end y in
              named d (lookup_in table (part_of s d.word d.end)) p (omega arith) g

  -- it stands in the text's lead
  unknown_lead : (s : List ℕ) (a e : ℕ) → decide table s ≡ Next.Unknown a e → ((lead_of s).range ≡ a) × ((lead_of s).word ≡ e)
  unfolding lead_word
  unknown_lead s a e q =
      let w = worded_of s a e q in
      let l = lead_parsed s w.its w.its_parts in
      (ap (λ (l : Lead). l.range) l ∙ w.begins, ap (λ (l : Lead). l.word) l ∙ w.stops)

  -- a prefix's argument starts where the lead of its text ends
  prefix_lead : (s : List ℕ) (ch : Change) (a e : ℕ) → decide table s ≡ Next.Again ch a e →
      (run_at is_text s (lead_of s).argument ≡ e) × ((lead_of s).argument ≡ a)
  unfolding lead_word
  prefix_lead s ch a e q =
      let p = prefix_of table s ch a e q in
      let b : (lead_of s).argument ≡ p.its.argument = ap (λ (l : Lead). l.argument) (lead_parsed s p.its p.its_parts) ∙ p.its_parts.argued in
      (ap (run_at is_text s) b ∙ p.its_parts.stopped ∙ p.argument.stops, b ∙ p.argument.begins)

  -- a text has at least one reading
  some_reading : (x : CommandContext) (s : List ℕ) → 1 ≤ (run_on table x s).readings
  unfolding step
  some_reading x s = rw (run_is table x s) (go (decide table s))
    where
      go : (v : Next) → 1 ≤ (step table (run_on table) x s v).readings
      go Next.Empty = omega arith
      go (Next.Refused i) = omega arith
      go (Next.Unknown i j) = omega arith
      go (Next.Runs i d) = omega arith
      go (Next.Again ch a e) = omega arith

  module _ (line : List ℕ) where
    -- the walk starts behind the spaces
    pub reached_start : Reached table line 0 (run_at is_space line 0) (length line)
    reached_start = record { context = fresh; stop = _; held = held_start table line _ refl }

    -- more readings than are passed
    pub reached_more : (n f t : ℕ) → Reached table line n f t → n < (line_from table fresh line).readings
    reached_more n f t h = omega (arith, ap (λ r. r.readings) h.held.same, some_reading h.context (part_of line f t))

    module _ (n f t : ℕ) (h : Reached table line n f t) where
      abbrev text : List ℕ
      text = part_of line f t

      -- where more readings are to come than the next, it goes on behind the lead of the text
      pub reached_lead : n + 1 < (line_from table fresh line).readings → Reached table line (n + 1) (f + (lead_of text).argument) (f + run_at is_text text (lead_of text).argument)
      reached_lead k = go (decide table text) refl
        where
          go : (v : Next) → decide table text ≡ v → Reached table line (n + 1) (f + (lead_of text).argument) (f + run_at is_text text (lead_of text).argument)
          go Next.Empty q = absurd (omega (arith, k, ap (λ r. r.readings) (held_empty table line h.context n f t h.stop h.held q)))
          go (Next.Refused i) q = absurd (omega (arith, k, ap (λ r. r.readings) (held_refused table line h.context n f t h.stop h.held i q)))
          go (Next.Unknown a e) q = absurd (omega (arith, k, ap (λ r. r.readings) (held_unknown table line h.context n f t h.stop h.held a e q)))
          go (Next.Runs i d) q = absurd (omega (arith, k, ap (λ r. r.readings) (held_runs table line h.context n f t h.stop h.held i d q)))
          go (Next.Again ch a e) q =
              let p = prefix_lead text ch a e q in
              rw (p.0, p.1) (record { context = _; stop = _; held = held_again table line h.context n f t h.stop h.held ch a e q })

      -- where the line ends with a word that no command has, that word stands in the lead of the text
      pub unknown_place : (w : List ℕ) → line_from table fresh line ≡ after (n + 1) (Out.unknown w) →
          ((lead_of text).range < (lead_of text).word) × ((f + (lead_of text).word ≤ length line) × (part_of line (f + (lead_of text).range) (f + (lead_of text).word) ≡ w))
      unfolding done_at
      unknown_place w k = go (decide table text) refl
        where
          Place : Type 0
          Place = ((lead_of text).range < (lead_of text).word) × ((f + (lead_of text).word ≤ length line) × (part_of line (f + (lead_of text).range) (f + (lead_of text).word) ≡ w))

          ended : (o : Out) → after (n + 1) o ≡ line_from table fresh line → o ≡ Out.unknown w
          ended o g = ap (λ r. r.out) (g ∙ k)

          done : (z : Done) (a e : ℕ) → done_at line z a e ≢ Out.unknown w
          done (Ok i) a e g = let z : ◌≡◌ {A = ℕ} 0 1 = cc in omega arith
          done (Err i) a e g = let z : ◌≡◌ {A = ℕ} 0 1 = cc in omega arith

          go : (v : Next) → decide table text ≡ v → Place
          go Next.Empty q = let g = ended _ (held_empty table line h.context n f t h.stop h.held q) in let z : ◌≡◌ {A = ℕ} 0 1 = cc in absurd (omega arith)
          go (Next.Refused i) q = let g = ended _ (held_refused table line h.context n f t h.stop h.held i q) in let z : ◌≡◌ {A = ℕ} 0 1 = cc in absurd (omega arith)
          go (Next.Runs i d) q =
              absurd (done (handle_of i text d h.context) (f + d.argument) (f + d.stop) (ended _ (held_runs table line h.context n f t h.stop h.held i d q)))
          go (Next.Again ch a e) q =
              let p = prefix_lead text ch a e q in
              let r : Reached table line (n + 1) (f + a) (f + e) = record { context = _; stop = _; held = held_again table line h.context n f t h.stop h.held ch a e q } in
              absurd (omega (arith, ap (λ r. r.readings) k, reached_more (n + 1) (f + a) (f + e) r))
          go (Next.Unknown a e) q =
              let i : In a (t - f) e = held_next table line h.context n f t h.stop h.held (Next.Unknown a e) q in
              let l = unknown_lead text a e q in
              let g : Out.unknown (part_of line (f + a) (f + e)) ≡ Out.unknown w = ended _ (held_unknown table line h.context n f t h.stop h.held a e q) in
              let z : part_of line (f + a) (f + e) ≡ w = cc in
              rw (l.0, l.1) ((worded_of text a e q).wordy, (omega (arith, i, h.held), z))

-- the walk -------------------------------------------------------------------------------------------------------------------------------

-- of the m readings of a line so many are left, and the next one reads the text from f up to t
pub record Walk (line : List ℕ) (m left f t : ℕ) : Type 0 where
  pub order : f ≤ t
  pub inside : t ≤ length line
  pub fewer : left ≤ m
  pub some : 1 - m ≡ 1 - left
  pub next : (table : List Row) → (line_from table fresh line).readings ≡ m → Reached table line (m - left) f t

pub walk_start : (line : List ℕ) (m : ℕ) → Walk line m m (run_at is_space line 0) (length line)
walk_start line m =
    let z : m - m ≡ 0 = omega arith in
    record {
      order = run_at_within is_space line 0 (omega arith);
      inside = omega arith;
      fewer = omega arith;
      some = refl;
      next = λ table e. rw z (reached_start table line);
    }

module _ (line : List ℕ) (m left f t : ℕ) (w : Walk line m left f t) where
  -- a prefix is passed
  pub walk_on : 1 < left → Walk line m (left - 1) (f + (lead_of (part_of line f t)).argument) (f + run_at is_text (part_of line f t) (lead_of (part_of line f t)).argument)
  walk_on k =
      let s = part_of line f t in
      let n = part_length line f t w.inside in
      let i = lead_inside s in
      let z : m - (left - 1) ≡ m - left + 1 = omega (arith, w.fewer) in
      record {
        order = omega (arith, run_at_le is_text s (lead_of s).argument);
        inside = omega (arith, n, w.order, w.inside, run_at_within is_text s (lead_of s).argument i);
        fewer = omega (arith, w.fewer);
        some = omega (arith, w.some, w.fewer);
        next = λ table e. rw z (reached_lead table line (m - left) f t (w.next table e) (omega (arith, e, w.fewer)));
      }

  -- the last reading is to come
  pub walk_last : left ≤ 1 → LastText line m f t
  walk_last k =
      let z : m - 1 ≡ m - left = omega (arith, w.fewer, w.some) in
      λ table e. rw z (w.next table e)

-- the word of a text that stands in a line stands in the line
pub word_inside : (line : List ℕ) (f t : ℕ) → f ≤ t → t ≤ length line →
    ((lead_of (part_of line f t)).range ≤ (lead_of (part_of line f t)).word) × (f + (lead_of (part_of line f t)).word ≤ length line)
word_inside line f t i k =
    let p = lead_places (part_of line f t) in
    (p.0, omega (arith, p.1.0, p.1.1, part_length line f t k))

-- and is the one that no command has, where the line ends with one
pub last_unknown : (line : List ℕ) (m f t : ℕ) → LastText line m f t → (table : List Row) (w : List ℕ) → line_from table fresh line ≡ after m (Out.unknown w) →
    ((lead_of (part_of line f t)).range < (lead_of (part_of line f t)).word)
    × ((f + (lead_of (part_of line f t)).word ≤ length line) × (part_of line (f + (lead_of (part_of line f t)).range) (f + (lead_of (part_of line f t)).word) ≡ w))
last_unknown line m f t h table w k =
    let e : (line_from table fresh line).readings ≡ m = ap (λ r. r.readings) k in
    let r = h table e in
    let z : m - 1 + 1 ≡ m = omega (arith, e, reached_more table line (m - 1) f t r) in
    unknown_place table line (m - 1) f t r w (rw z k)
