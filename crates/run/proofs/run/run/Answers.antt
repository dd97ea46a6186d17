-- `run::run` meets its contract. The invariant: the line answers what the text from `from` up to `to` answers, in the context x, after n readings; the
-- store is as it was.
-- Assumes nothing.
use mathlib.Core.Path.{refl, sym, ◌∙◌, ap}
use Prim.Native.Nat.{◌+◌, ◌-◌, ◌^◌, ◌<◌}
use native.Mathlib.Omega.{arith}
use lib.ListN.{length}
use Rattle.scan.specs.Bytes.{is_text}
use Rattle.scan.specs.Scan.{run_at}
use Rattle.ranges.specs.Bounds.{In}
use Rattle.layout.specs.Layout.{session_of, table_of}
use Rattle.commands.specs.Run.{decide as decide_of, change}
use Rattle.run.specs.ReplyLaws.{ended, refused_ended}
use Rattle.run.specs.Held.{Held, held_start, held_next, held_empty, held_refused, held_unknown, held_runs, held_less, held_again}
use Rattle.run.proofs.run.run.Goals as goal

pub loop-store-init : goal.loop-store-init
loop-store-init c = (
  refl,
  let e = c.text_stop-stop.ensures ∙ ap (λ v. run_at is_text v 0) c.part.ensures in
      rw (c.fresh-x.ensures, c.skip_spaces-from.ensures) (held_start _ _ _ (rw c.skip_spaces-from.ensures at e)),
)

pub returns-in-Empty : goal.returns-in-Empty
returns-in-Empty c =
    let w = c.end_nothing.ensures in
    let e = ended (w.answer, (w.store, w.size)) c.loop-store.invariant.0
    (held_empty _ _ _ _ _ _ _ c.loop-store.invariant.1 (sym (c.decide.ensures ∙ ap (decide_of _) c.part-s.ensures) ∙ c.in-Empty.is)) in
    record { answer = e.0; store = e.1.0; size = e.1.1 }

pub returns-in-Refused : goal.returns-in-Refused
returns-in-Refused c =
    let e = refused_ended c.end_refused.ensures c.loop-store.invariant.0 (held_refused _ _ _ _ _ _ _ c.loop-store.invariant.1 _ (sym (c.decide.ensures ∙ ap (decide_of _) c.part-s.ensures) ∙ c.in-Refused.is)) in
    record { answer = e.0; store = e.1.0; size = e.1.1 }

pub overflow_add-from : goal.overflow_add-from
overflow_add-from c =
    let fits : length c.args.line.now < 2 ^ 64 = omega arith in
    let inside : In c.in-Unknown.a (c.loop-store.to - c.loop-store.from) c.in-Unknown.e = held_next _ _ _ _ _ _ _ c.loop-store.invariant.1 _ (sym (c.decide.ensures ∙ ap (decide_of _) c.part-s.ensures) ∙ c.in-Unknown.is) in
    omega (arith, c.loop-store.invariant.1)

pub overflow_add-from-in-Unknown : goal.overflow_add-from-in-Unknown
overflow_add-from-in-Unknown c =
    let fits : length c.args.line.now < 2 ^ 64 = omega arith in
    let inside : In c.in-Unknown.a (c.loop-store.to - c.loop-store.from) c.in-Unknown.e = held_next _ _ _ _ _ _ _ c.loop-store.invariant.1 _ (sym (c.decide.ensures ∙ ap (decide_of _) c.part-s.ensures) ∙ c.in-Unknown.is) in
    omega (arith, c.loop-store.invariant.1)

pub returns-in-Unknown : goal.returns-in-Unknown
returns-in-Unknown c =
    let w = c.end_unknown.ensures in
    let e = ended (w.answer, (w.store, w.size)) c.loop-store.invariant.0
    (held_unknown _ _ _ _ _ _ _ c.loop-store.invariant.1 _ _ (sym (c.decide.ensures ∙ ap (decide_of _) c.part-s.ensures) ∙ c.in-Unknown.is)) in
    record { answer = e.0; store = e.1.0; size = e.1.1 }

pub overflow_add-a : goal.overflow_add-a
overflow_add-a c =
    let fits : length c.args.line.now < 2 ^ 64 = omega arith in
    let inside : In c.in-Runs.d.argument (c.loop-store.to - c.loop-store.from) c.in-Runs.d.stop = held_next _ _ _ _ _ _ _ c.loop-store.invariant.1 _ (sym (c.decide.ensures ∙ ap (decide_of _) c.part-s.ensures) ∙ c.in-Runs.is) in
    omega (arith, c.loop-store.invariant.1)

pub overflow_add-e : goal.overflow_add-e
overflow_add-e c =
    let fits : length c.args.line.now < 2 ^ 64 = omega arith in
    let inside : In c.in-Runs.d.argument (c.loop-store.to - c.loop-store.from) c.in-Runs.d.stop = held_next _ _ _ _ _ _ _ c.loop-store.invariant.1 _ (sym (c.decide.ensures ∙ ap (decide_of _) c.part-s.ensures) ∙ c.in-Runs.is) in
    omega (arith, c.loop-store.invariant.1)

pub returns-in-Runs : goal.returns-in-Runs
returns-in-Runs c =
    let w = rw (c.handle-y.ensures, c.description_again.ensures, c.part-s.ensures) at c.end_done.ensures in
    let e = ended (w.answer, (w.store, w.size)) c.loop-store.invariant.0
    (held_runs _ _ _ _ _ _ _ c.loop-store.invariant.1 _ _ (sym (c.decide.ensures ∙ ap (decide_of _) c.part-s.ensures) ∙ c.in-Runs.is)) in
    record { answer = e.0; store = e.1.0; size = e.1.1 }

pub overflow_add-to : goal.overflow_add-to
overflow_add-to c =
    let fits : length c.args.line.now < 2 ^ 64 = omega arith in
    let again : Held (table_of (session_of c.args.session.now)) c.args.line.now (change c.in-Again.ch c.loop-store.x) (c.loop-store.n + 1)
    (c.loop-store.from + c.in-Again.a) (c.loop-store.from + c.in-Again.e) (c.in-Again.e - c.in-Again.a)
    = held_again _ _ _ _ _ _ _ c.loop-store.invariant.1 _ _ _ (sym (c.decide.ensures ∙ ap (decide_of _) c.part-s.ensures) ∙ c.in-Again.is) in
    omega arith

pub overflow_add-from-in-Again : goal.overflow_add-from-in-Again
overflow_add-from-in-Again c =
    let fits : length c.args.line.now < 2 ^ 64 = omega arith in
    let again : Held (table_of (session_of c.args.session.now)) c.args.line.now (change c.in-Again.ch c.loop-store.x) (c.loop-store.n + 1)
    (c.loop-store.from + c.in-Again.a) (c.loop-store.from + c.in-Again.e) (c.in-Again.e - c.in-Again.a)
    = held_again _ _ _ _ _ _ _ c.loop-store.invariant.1 _ _ _ (sym (c.decide.ensures ∙ ap (decide_of _) c.part-s.ensures) ∙ c.in-Again.is) in
    omega arith

pub overflow_sub-stop : goal.overflow_sub-stop
overflow_sub-stop c =
    let again : Held (table_of (session_of c.args.session.now)) c.args.line.now (change c.in-Again.ch c.loop-store.x) (c.loop-store.n + 1)
    (c.loop-store.from + c.in-Again.a) (c.loop-store.from + c.in-Again.e) (c.in-Again.e - c.in-Again.a)
    = held_again _ _ _ _ _ _ _ c.loop-store.invariant.1 _ _ _ (sym (c.decide.ensures ∙ ap (decide_of _) c.part-s.ensures) ∙ c.in-Again.is) in
    omega arith

pub loop-store-smaller : goal.loop-store-smaller
loop-store-smaller c = held_less _ _ _ _ _ _ _ c.loop-store.invariant.1 _ _ _ (sym (c.decide.ensures ∙ ap (decide_of _) c.part-s.ensures) ∙ c.in-Again.is)

pub loop-store-preserved : goal.loop-store-preserved
loop-store-preserved c =
    let again : Held (table_of (session_of c.args.session.now)) c.args.line.now (change c.in-Again.ch c.loop-store.x) (c.loop-store.n + 1)
    (c.loop-store.from + c.in-Again.a) (c.loop-store.from + c.in-Again.e) (c.in-Again.e - c.in-Again.a)
    = held_again _ _ _ _ _ _ _ c.loop-store.invariant.1 _ _ _ (sym (c.decide.ensures ∙ ap (decide_of _) c.part-s.ensures) ∙ c.in-Again.is) in
    (c.loop-store.invariant.0, rw c.changed-x.ensures again)
