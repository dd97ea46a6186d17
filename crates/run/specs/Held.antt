-- The invariant of the loop over readings, and its laws: what the line answers is what the text from `from` up to `to` answers in the
-- context x, after n readings; `stop` is where that text's first 0x0A stands, or its end.
-- Assumes nothing.
use Rattle.std.specs.Prelude.{◌≡◌, List, ℕ, ◌+◌, ◌-◌, ◌≤◌, ◌<◌, length, Ok, Err}
use Rattle.std.proofs.Math.Path.{refl, ap}
use Rattle.std.proofs.Common.{sym, ◌∙◌, subst, arith}
use Rattle.limits.specs.Refusals.{refusal_no}
use Rattle.limits.specs.declared.refusal.Refusal.{Refusal}
use Rattle.scan.specs.Bytes.{is_space, is_text}
use Rattle.scan.specs.Scan.{run_at, part_of}
use Rattle.scan.specs.RunLaws.{run_at_within}
use Rattle.scan.specs.PartLaws.{part_length, part_part}
use Rattle.ranges.specs.Bounds.{In}
use Rattle.reading.specs.declared.line.CommandDescription.{CommandDescription}
use Rattle.actions.specs.Record.{paper_of}
use Rattle.context.specs.Context.{fresh}
use Rattle.context.specs.declared.context.CommandContext.{CommandContext}
use Rattle.handlers.specs.Done.{Done}
use Rattle.words.specs.Words.{Row}
use Rattle.commands.specs.Handle.{handle_of}
use Rattle.commands.specs.Run.{decide, change, Out, done_out, step, run_on, line_from}
use Rattle.commands.specs.RunLaws.{shrinks}
use Rattle.commands.specs.TurnLaws.{NextIn, decide_in, again_flat, plus, ends, goes_on, begins}
use Rattle.commands.specs.declared.next.Change.{Change}
use Rattle.commands.specs.declared.next.Next.{Next}
use Rattle.run.specs.Reply.{after, done_at}

pub record Held (table : List Row) (line : List ℕ) (x : CommandContext) (n from to stop : ℕ) : Type 0 where
  pub order : from ≤ to
  pub inside : to ≤ length line
  pub room : n + (to - from) ≤ length line
  pub flat : stop ≡ run_at is_text (part_of line from to) 0
  pub same : line_from table fresh line ≡ plus table n (run_on table x (part_of line from to))

pub held_start : (table : List Row) (line : List ℕ) (stop : ℕ) → stop ≡ run_at is_text (part_of line (run_at is_space line 0) (length line)) 0 →
    Held table line fresh 0 (run_at is_space line 0) (length line) stop
held_start table line stop e =
    record { order = run_at_within is_space line 0 (omega arith); inside = omega arith; room = omega arith; flat = e; same = begins table fresh line }

-- what a handler's answer to a reading of a part of the line stands for
done_part : (l : List ℕ) (f t : ℕ) (d : CommandDescription) (y : Done) → In d.argument (t - f) d.stop → done_at l y (f + d.argument) (f + d.stop) ≡ done_out (part_of l f t) d y
unfolding done_at done_out
done_part l f t d (Ok a) i = ap (λ v. Out.act (paper_of v a)) (sym (part_part l f t d.argument d.stop i.from i.to))
done_part l f t d (Err e) i = refl

module _ (table : List Row) (line : List ℕ) (x : CommandContext) (n from to stop : ℕ) (h : Held table line x n from to stop) where
  text_length : length (part_of line from to) ≡ to - from
  text_length = part_length line from to h.inside

  pub held_next : (v : Next) → decide table (part_of line from to) ≡ v → NextIn (to - from) v
  held_next v q = rw text_length at (subst (NextIn (length (part_of line from to))) q (decide_in table (part_of line from to)))

  pub held_empty : decide table (part_of line from to) ≡ Next.Empty → after (n + 1) Out.nothing ≡ line_from table fresh line
  unfolding step
  held_empty q = ends table (line_from table fresh line) n x (part_of line from to) Next.Empty _ h.same q refl

  pub held_refused : (e : Refusal) → decide table (part_of line from to) ≡ Next.Refused e → after (n + 1) (Out.refused (refusal_no e)) ≡ line_from table fresh line
  unfolding step
  held_refused e q = ends table (line_from table fresh line) n x (part_of line from to) (Next.Refused e) _ h.same q refl

  pub held_unknown : (a e : ℕ) → decide table (part_of line from to) ≡ Next.Unknown a e → after (n + 1) (Out.unknown (part_of line (from + a) (from + e))) ≡ line_from table fresh line
  unfolding step
  held_unknown a e q =
      let i : In a (to - from) e = held_next (Next.Unknown a e) q in
      ap (λ w. record { out = Out.unknown w; readings = n + 1 }) (sym (part_part line from to a e i.from i.to))
      ∙ ends table (line_from table fresh line) n x (part_of line from to) (Next.Unknown a e) _ h.same q refl

  pub held_runs : (k : ℕ) (d : CommandDescription) → decide table (part_of line from to) ≡ Next.Runs k d →
      after (n + 1) (done_at line (handle_of k (part_of line from to) d x) (from + d.argument) (from + d.stop)) ≡ line_from table fresh line
  unfolding step
  held_runs k d q =
      let i : In d.argument (to - from) d.stop = held_next (Next.Runs k d) q in
      ap (λ o. record { out = o; readings = n + 1 }) (done_part line from to d (handle_of k (part_of line from to) d x) i)
      ∙ ends table (line_from table fresh line) n x (part_of line from to) (Next.Runs k d) _ h.same q refl

  module _ (ch : Change) (a e : ℕ) (q : decide table (part_of line from to) ≡ Next.Again ch a e) where
    pub held_less : from + e - (from + a) < to - from
    held_less =
        let i : In a (to - from) e = held_next (Next.Again ch a e) q in
        omega (arith, shrinks table (part_of line from to) ch a e q, text_length, part_length (part_of line from to) a e (omega (arith, text_length)))

    pub held_again : Held table line (change ch x) (n + 1) (from + a) (from + e) (e - a)
    held_again =
        let i : In a (to - from) e = held_next (Next.Again ch a e) q in
        let k = held_less in
        record {
          order = omega arith;
          inside = omega (arith, h.inside, h.order);
          room = omega (arith, h.room);
          flat = again_flat table (part_of line from to) ch a e q ∙ ap (λ v. run_at is_text v 0) (part_part line from to a e i.from i.to);
          same = goes_on table (line_from table fresh line) n x line from to ch a e h.same q i;
        }
