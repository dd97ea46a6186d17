-- Laws of a line's end: what is put at the front of the store is what stands there afterwards, and its length is what is answered.
-- Assumes nothing.
use Rattle.std.specs.Prelude.{◌≡◌, List, ℕ, ◌≤◌, length}
use Rattle.std.proofs.Common.{◌∙◌, ap, arith}
use Rattle.store.specs.Splice.{Put, sets_front}
use Rattle.reading.specs.Alone.{at_front}
use Rattle.commands.specs.Run.{Out, out_no, out_bytes, Answer}
use Rattle.commands.specs.Line.{store_after}
use Rattle.run.specs.Reply.{reply, after}
use Rattle.run.specs.declared.reply.LineReply.{LineReply}

-- bytes at the front of a store
pub front : {s s₁ v : List ℕ} {r : ℕ} → Put s s₁ 0 r v → r ≤ length s → s₁ ≡ at_front v s
unfolding at_front
front {s} {s₁} {v} p h = p.store ∙ sets_front s v (omega (arith, p.place))

pub end_answer : (o : Out) {s s₁ : List ℕ} {k : ℕ} (n : ℕ) → Put s s₁ 0 k (out_bytes o) → record { refusal = out_no o; readings = n; count = k } ≡ reply (after n o)
unfolding reply
end_answer o {s} {s₁} {k} n p =
    let h : k ≡ length (out_bytes o) = omega (arith, p.place) in
    ap (λ (m : ℕ). record { refusal = out_no o; readings = n; count = m }) h

pub end_store : (o : Out) {s s₁ : List ℕ} {k : ℕ} → Put s s₁ 0 k (out_bytes o) → k ≤ length s → s₁ ≡ store_after o s
unfolding store_after
end_store o p h = front p h

-- a line that ended so, where its definition answers that
pub ended : {o : Out} {n : ℕ} {r : LineReply} {a : Answer} {s s₀ s₁ : List ℕ} → (r ≡ reply (after n o)) × ((s₁ ≡ store_after o s) × (length s₁ ≡ length s)) → s ≡ s₀ → after n o ≡ a →
    (r ≡ reply a) × ((s₁ ≡ store_after a.out s₀) × (length s₁ ≡ length s₀))
ended {o} {n} {r} {a} {s} {s₀} w h e = (w.0 ∙ ap reply e, (w.1.0 ∙ ap (store_after o) h ∙ ap (λ v. store_after v.out s₀) e, w.1.1 ∙ ap length h))

-- and nothing was written
pub refused_ended : {k n : ℕ} {r : LineReply} {a : Answer} {s s₀ : List ℕ} → r ≡ reply (after n (Out.refused k)) → s ≡ s₀ → after n (Out.refused k) ≡ a →
    (r ≡ reply a) × ((s ≡ store_after a.out s₀) × (length s ≡ length s₀))
unfolding store_after at_front out_bytes
refused_ended {k} {n} {r} {a} {s} {s₀} w h e = (w ∙ ap reply e, (h ∙ ap (λ v. store_after v.out s₀) e, ap length h))
