-- The claim about a list of prefixes, proved: a prefix before a space and another text is read as it is alone, sets what it sets alone,
-- and its argument is that text; so the list goes by one prefix after the other.
-- Assumes nothing.
use Rattle.std.specs.Prelude.{◌≡◌, drop, Ok, Err, Option, Some, None}
use Rattle.std.proofs.Math.Path.{refl, ap, subst}
use Rattle.std.proofs.Common.{sym, ◌∙◌, length-append, length-drop}
use mathlib.Core.List.{List, [], ◌∷◌, ◌++◌, append_assoc}
use Prim.Native.Nat.{ℕ, zero, suc, ◌+◌, ◌<◌, ◌≤◌}
use native.Mathlib.Omega.{arith}
use Rattle.std.proofs.Math.ListN.{length}
use Rattle.std.proofs.Math.Seq.{drop-append-add}
use Rattle.std.proofs.lemmas.List.{drop-append-le}
use borrow.Author.Tests.{ne_eqb}
use Rattle.scan.specs.Bytes.{is_space}
use Rattle.scan.specs.PartLaws.{part_length, part_append, part_rest}
use Rattle.scan.specs.Scan.{run_at, part_of}
use Rattle.utf8.specs.Utf8Laws.{utf8_behind}
use Rattle.scan.specs.RunLaws.{run_at_inside}
use Rattle.ranges.specs.Stable.{stops_space}
use Rattle.reading.specs.Alone.{check_for, by_check, checked_for, line_room, Checked}
use Rattle.reading.specs.Checks.{check_for_good, check_for_passes, line_room_behind}
use Rattle.reading.specs.Behind.{NoNewline, no_newline_append, no_newline_drop, behind, reading_behind}
use Rattle.reading.specs.Line.{reading_of, start_of}
use Rattle.reading.specs.LineLaws.{Parsed, parsed, places}
use Rattle.reading.specs.declared.line.CommandDescription.{CommandDescription}
use Rattle.focus.specs.Focus.{focus_of, Focused}
use Rattle.focus.specs.FocusStop.{focus_stop}
use Rattle.words.specs.Words.{Row, lookup_in}
use Rattle.context.specs.Context.{fresh}
use Rattle.context.specs.declared.context.CommandContext.{CommandContext}
use Rattle.commands.specs.Handle.{IsPrefix, role_of}
use Rattle.commands.specs.Run.{Answer, one_more, by_focus, by_role, by_name, by_reading, decide, change, role_at, role_named, trim, step, run, run_on, line_from}
use Rattle.commands.specs.RunLaws.{role_named_lem, run_is}
use Rattle.commands.specs.Line.{turned, line, store_after}
use Rattle.commands.specs.declared.next.Change.{Change}
use Rattle.commands.specs.declared.next.Next.{Next}
use Rattle.commands.specs.declared.next.Role.{Role}
use Rattle.demands.proofs.Last.{context_last}
use Rattle.demands.specs.Statement.{Passes, joined, Accepted, sets_tab, sets_by, NamesPrefix, typed, Alone, AllAlone, read_sets, sets, context_from, AboutLists}

-- the checks --------------------------------------------------------------------------------------------------------------------------

passes_behind : (p t store : List ℕ) → Passes (p ++ 32 ∷ t) store → Passes t store
passes_behind p t store h =
    let e = length-append p (32 ∷ t) in
    let r : line_room t ≤ line_room (p ++ 32 ∷ t) = subst (λ v. line_room t ≤ line_room v) (append_assoc p (32 ∷ []) t) (line_room_behind (p ++ 32 ∷ []) t) in
    record { short = omega arith; room = omega arith; good = utf8_behind p t h.good }

passes_last : (ps : List (List ℕ)) (t store : List ℕ) → Passes (joined ps t) store → Passes t store
passes_last [] t store h = h
passes_last (p ∷ ps) t store h = passes_last ps t store (passes_behind p (joined ps t) store h)

-- a line that is accepted passed them
passed_accepted : (r : Answer) (k : Checked) → Accepted (by_check turned r k).out → Accepted r.out
passed_accepted r (Ok tt) h = h
passed_accepted r (Err x) h = absurd h

-- spaces ------------------------------------------------------------------------------------------------------------------------------

-- the argument behind a space is the text without the spaces that it starts with
part_behind : (p t : List ℕ) → part_of (p ++ 32 ∷ t) (length p + 1 + run_at is_space t 0) (length (p ++ 32 ∷ t)) ≡ trim t
unfolding trim
part_behind p t =
    let k = run_at is_space t 0 in
    let q : length p + 1 + k ≡ length p + suc k = omega arith in
    part_rest (p ++ 32 ∷ t) (length p + 1 + k) (length (p ++ 32 ∷ t)) (omega arith)
    ∙ ap (λ (n : ℕ). drop n (p ++ 32 ∷ t)) q
    ∙ drop-append-add p (32 ∷ t) (suc k)

trim_append : (p t : List ℕ) → 0 < length (trim p) → trim (p ++ 32 ∷ t) ≡ trim p ++ 32 ∷ t
unfolding trim
trim_append p t h =
    let n = length-drop (run_at is_space p 0) p in
    ap (λ (k : ℕ). drop k (p ++ 32 ∷ t)) (run_at_inside is_space p (32 ∷ t) 0 (omega arith) (omega arith))
    ∙ drop-append-le (run_at is_space p 0) p (32 ∷ t) (omega arith)

trim_newline : (l : List ℕ) → NoNewline l → NoNewline (trim l)
unfolding trim
trim_newline l h = no_newline_drop (run_at is_space l 0) l h

-- answers -----------------------------------------------------------------------------------------------------------------------------

abbrev more : ℕ → Answer → Answer
more zero r = r
more (suc n) r = one_more (more n r)

more_out : (n : ℕ) (r : Answer) → (more n r).out ≡ r.out
more_out zero r = refl
more_out (suc n) r = more_out n r

more_readings : (n : ℕ) (r : Answer) → (more n r).readings ≡ n + r.readings
more_readings zero r = omega arith
more_readings (suc n) r = let h = more_readings n r in omega arith

-- one prefix --------------------------------------------------------------------------------------------------------------------------

-- a reading leads on to the argument of d, and its change is f
record Leads (v : Next) (d : CommandDescription) (f : CommandContext → CommandContext) : Type 0 where
  its_change : Change
  again : v ≡ Next.Again its_change d.argument d.stop
  changes : (x : CommandContext) → change its_change x ≡ f x

-- the prefix p, whose reading is d, before a space and the text t
module _ (table : List Row) (p t : List ℕ) (d : CommandDescription) (h : Parsed p d) where
  by_focus_lem : (f : Focused) → Accepted (step table (run_on table) fresh p (by_focus d f)).out → Leads (by_focus (behind p t d) f) (behind p t d) (sets_tab f)
  unfolding by_focus step sets_tab change
  by_focus_lem (Ok f) k = record { its_change = Change.Tab f; again = refl; changes = λ x. refl }
  by_focus_lem (Err e) k = absurd k

  by_role_lem : (n : ℕ) (r : Role) → IsPrefix r → Accepted (step table (run_on table) fresh p (by_role p d n r)).out →
      Leads (by_role (p ++ 32 ∷ t) (behind p t d) n r) (behind p t d) (sets_by p d.range r)
  unfolding by_role sets_by change
  by_role_lem n Role.Tab i k = rw (focus_stop 32 stops_space p t (start_of p) d.range (places p d h).its_range) (by_focus_lem (focus_of p d.range) k)
  by_role_lem n (Role.Axis a) i k = record { its_change = Change.Axis a; again = refl; changes = λ x. refl }
  by_role_lem n (Role.Side a) i k = record { its_change = Change.Side a; again = refl; changes = λ x. refl }
  by_role_lem n Role.Action i k = absurd i

  by_name_lem : (m : Option ℕ) → IsPrefix (role_at m) → Accepted (step table (run_on table) fresh p (by_name p d m)).out →
      Leads (by_name (p ++ 32 ∷ t) (behind p t d) m) (behind p t d) (sets_by p d.range (role_at m))
  unfolding by_name
  by_name_lem (Some n) i k = by_role_lem n (role_of n) i k
  by_name_lem None i k = absurd i

module _ (table : List Row) where
  decide_command : (s : List ℕ) (d : CommandDescription) → reading_of s ≡ Ok d → d.word < d.end →
      decide table s ≡ by_name s d (lookup_in table (part_of s d.word d.end))
  unfolding decide by_reading
  decide_command s d e h = rw (e, ne_eqb d.word d.end (λ q. omega arith))

  names_some : (w : List ℕ) → NamesPrefix table w → 0 < length w
  unfolding role_named
  names_some [] h = absurd h
  names_some (x ∷ w) h = omega arith

  line_passes : (x : CommandContext) (l store : List ℕ) → Passes l store → typed table x l store ≡ line_from table x l
  unfolding line
  line_passes x l store h =
      check_for_good (line_room l) l (length store) (check_for_passes (line_room l) l (length store) h.short h.room h.good) turned (line_from table x l)

  line_accepted : (x : CommandContext) (l store : List ℕ) → Accepted (typed table x l store).out → Accepted (run_on table x (trim l)).out
  unfolding line line_from checked_for
  line_accepted x l store h = passed_accepted (line_from table x l) (check_for (line_room l) l (length store)) h

  -- a prefix that is accepted alone leads on, before a space and another text, to that text
  record Goes (p t : List ℕ) : Type 0 where
    some_text : 0 < length (trim p)
    its : CommandDescription
    leads : Leads (decide table (trim p ++ 32 ∷ t)) (behind (trim p) t its) (sets table p)

  goes : (store p t : List ℕ) → Alone table store p → NoNewline p → NoNewline t → NoNewline (p ++ 32 ∷ t) → Goes p t
  unfolding sets read_sets
  goes store p t h np nt n =
      let q = trim p in
      let d = h.its in
      let c = parsed q d h.reads in
      let l = places q d c in
      let w = l.its_word in
      let v = part_of q d.word d.end in
      let m = lookup_in table v in
      let k = names_some v h.names in
      let z : d.word < d.end = omega (arith, part_length q d.word d.end (omega arith)) in
      let s : 0 < length q = omega arith in
      let r : role_named table v ≡ role_at m = role_named_lem table v k in
      let n' : NoNewline (q ++ 32 ∷ t) = subst NoNewline (trim_append p t s) (trim_newline (p ++ 32 ∷ t) n) in
      let e₁ : decide table q ≡ by_name q d m = decide_command q d h.reads z in
      let e₂ : decide table (q ++ 32 ∷ t) ≡ by_name (q ++ 32 ∷ t) (behind q t d) m =
      decide_command (q ++ 32 ∷ t) (behind q t d) (reading_behind q t d h.reads z h.no_argument (trim_newline p np) nt n') z
      ∙ ap (λ u. by_name (q ++ 32 ∷ t) (behind q t d) (lookup_in table u)) (part_append q (32 ∷ t) d.word d.end (omega arith) (omega arith)) in
      let y = subst (λ (a : Answer). Accepted a.out) (run_is table fresh q) (line_accepted fresh p store h.accepted) in
      let a = subst (λ (u : Next). Accepted (step table (run_on table) fresh q u).out) e₁ y in
      let g = by_name_lem table q t d c m (subst IsPrefix r h.names) a in
      record {
        some_text = s;
        its = d;
        leads = record { its_change = g.its_change; again = e₂ ∙ g.again; changes = λ x. g.changes x ∙ rw (h.reads, r) };
      }

  -- one prefix, then any text: one reading more, in the context that the prefix sets
  one_prefix : (x : CommandContext) (p t : List ℕ) → Goes p t → line_from table x (p ++ 32 ∷ t) ≡ one_more (line_from table (sets table p x) t)
  unfolding line_from step
  one_prefix x p t h =
      let g = h.leads in
      ap (run_on table x) (trim_append p t h.some_text)
      ∙ run_is table x (trim p ++ 32 ∷ t)
      ∙ ap (step table (run_on table) x (trim p ++ 32 ∷ t)) g.again
      ∙ ap (λ s. one_more (run_on table (change g.its_change x) s)) (part_behind (trim p) t)
      ∙ ap (λ y. one_more (run_on table y (trim t))) (g.changes x)

  -- the list ----------------------------------------------------------------------------------------------------------------------------

  -- how many readings a text takes does not depend on the context
  run_readings : (n : ℕ) (x y : CommandContext) (s : List ℕ) → (run table n x s).readings ≡ (run table n y s).readings
  unfolding run step
  run_readings zero x y s = refl
  run_readings (suc n) x y s = go (decide table s) (λ v w a. run_readings n v w a)
    where
      go : (u : Next) → ((v w : CommandContext) (a : List ℕ) → (run table n v a).readings ≡ (run table n w a).readings) →
          (step table (λ v a. run table n v a) x s u).readings ≡ (step table (λ v a. run table n v a) y s u).readings
      go Next.Empty ih = refl
      go (Next.Refused i) ih = refl
      go (Next.Unknown i j) ih = refl
      go (Next.Runs i d) ih = refl
      go (Next.Again ch a e) ih = ap suc (ih (change ch x) (change ch y) (part_of s a e))

  line_readings : (x y : CommandContext) (l : List ℕ) → (line_from table x l).readings ≡ (line_from table y l).readings
  unfolding line_from run_on
  line_readings x y l = run_readings (suc (length (trim l))) x y (trim l)

  list_run : (ps : List (List ℕ)) (x : CommandContext) (t store : List ℕ) → AllAlone table store ps → NoNewline (joined ps t) →
      line_from table x (joined ps t) ≡ more (length ps) (line_from table (context_from table x ps) t)
  unfolding context_from
  list_run [] x t store h n = refl
  list_run (p ∷ ps) x t store h n =
      let n' = no_newline_append p (32 ∷ joined ps t) n in
      one_prefix x p (joined ps t) (goes store p (joined ps t) h.0 n'.0 n'.1.1 n)
      ∙ ap one_more (list_run ps (sets table p x) t store h.1 n'.1.1)

  pub about_lists : AboutLists table
  about_lists ps t store h n ok =
      let ok' = passes_last ps t store ok in
      let x = context_from table fresh ps in
      let last = line_from table x t in
      let e : typed table fresh (joined ps t) store ≡ more (length ps) last = line_passes fresh (joined ps t) store ok ∙ list_run ps fresh t store h n in
      let o : (typed table fresh (joined ps t) store).out ≡ (typed table x t store).out =
      ap (λ r. r.out) e ∙ more_out (length ps) last ∙ ap (λ r. r.out) (sym (line_passes x t store ok')) in
      record {
        last_of_each = context_last table ps;
        same_out = o;
        same_store = ap (λ y. store_after y store) o;
        counted =
            ap (λ r. r.readings) e
            ∙ more_readings (length ps) last
            ∙ ap (λ k. length ps + k) (line_readings x fresh t ∙ ap (λ r. r.readings) (sym (line_passes fresh t store ok')));
      }
