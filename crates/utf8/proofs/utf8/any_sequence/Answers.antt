-- `utf8::any_sequence` meets its contract.
-- Assumes nothing.
use Rattle.std.proofs.Common.{◌≡◌, ℕ, suc, ◌+◌, ◌-◌, ◌<◌, ◌≤◌, sym, ap, ◌∙◌, arith}
use Rattle.scan.specs.Bytes.{within}
use Rattle.scan.specs.Scan.{byte_at}
use Rattle.utf8.specs.Utf8.{lowest, highest}
use Rattle.utf8.specs.Utf8Laws.{followers_four, sequence_one, sequence_none, second_off, sequence_two, third_off, sequence_three, fourth_off, sequence_four}
use Rattle.utf8.proofs.utf8.any_sequence.Goals as goal

-- how many follow: at most 4; two or three; three

two-more : (n : ℕ) → n ≤ 4 → (n ≡ 0 → ⊥) → (n ≡ 4 → ⊥) → (n ≡ 1 → ⊥) → (n ≡ suc (suc (n - 2))) × (suc (suc (n - 2)) < 4)
two-more n h a b d = (omega arith, omega arith)

only-three : (n : ℕ) → n ≤ 4 → (n ≡ 0 → ⊥) → (n ≡ 4 → ⊥) → (n ≡ 1 → ⊥) → (n ≡ 2 → ⊥) → n ≡ 3
only-three n h a b d e = omega arith

-- what each of them is told to be

pub returns-then-n-eq0 : goal.returns-then-n-eq0
returns-then-n-eq0 c = sequence_one _ _ c.requires (sym c.followers-n.ensures ∙ c.if-n-eq0.true)

pub returns-then-n-eq4 : goal.returns-then-n-eq4
returns-then-n-eq4 c = sequence_none _ _ c.requires (sym c.followers-n.ensures ∙ c.if-n-eq4.true)

pub returns-then-not-follows : goal.returns-then-not-follows
returns-then-not-follows c =
    let few : c.followers-n.result ≤ 4 = rw c.followers-n.ensures (followers_four _) in
    let b = byte_at c.args.s.now c.args.i in
    let second : c.follows.result ≡ within (lowest b) (highest b) (byte_at c.args.s.now (c.args.i + 1)) = c.follows.ensures ∙ ap (λ (p : ℕ × ℕ). within p.0 p.1 (byte_at c.args.s.now (c.args.i + 1))) c.second-low.ensures in
    let n = c.followers-n.result in
    let e : n ≡ suc (n - 1) = omega arith in
    second_off _ _ c.requires (n - 1) (sym c.followers-n.ensures ∙ e) (omega arith)
    (sym second ∙ c.if-not-follows.true)

pub returns-then-n-eq1 : goal.returns-then-n-eq1
returns-then-n-eq1 c =
    let b = byte_at c.args.s.now c.args.i in
    let second : c.follows.result ≡ within (lowest b) (highest b) (byte_at c.args.s.now (c.args.i + 1)) = c.follows.ensures ∙ ap (λ (p : ℕ × ℕ). within p.0 p.1 (byte_at c.args.s.now (c.args.i + 1))) c.second-low.ensures in
    sequence_two _ _ c.requires (sym c.followers-n.ensures ∙ c.if-n-eq1.true)
    (sym second ∙ c.if-not-follows.false)

pub returns-then-not-follows-2 : goal.returns-then-not-follows-2
returns-then-not-follows-2 c =
    let few : c.followers-n.result ≤ 4 = rw c.followers-n.ensures (followers_four _) in
    let b = byte_at c.args.s.now c.args.i in
    let second : c.follows.result ≡ within (lowest b) (highest b) (byte_at c.args.s.now (c.args.i + 1)) = c.follows.ensures ∙ ap (λ (p : ℕ × ℕ). within p.0 p.1 (byte_at c.args.s.now (c.args.i + 1))) c.second-low.ensures in
    let e = two-more _ few c.if-n-eq0.false c.if-n-eq4.false c.if-n-eq1.false in
    third_off _ _ c.requires _ (sym c.followers-n.ensures ∙ e.0) e.1
    (sym second ∙ c.if-not-follows.false) (sym c.follows-2.ensures ∙ c.if-not-follows-2.true)

pub returns-then-n-eq2 : goal.returns-then-n-eq2
returns-then-n-eq2 c =
    let b = byte_at c.args.s.now c.args.i in
    let second : c.follows.result ≡ within (lowest b) (highest b) (byte_at c.args.s.now (c.args.i + 1)) = c.follows.ensures ∙ ap (λ (p : ℕ × ℕ). within p.0 p.1 (byte_at c.args.s.now (c.args.i + 1))) c.second-low.ensures in
    sequence_three _ _ c.requires (sym second ∙ c.if-not-follows.false) (sym c.follows-2.ensures ∙ c.if-not-follows-2.false)
    (sym c.followers-n.ensures ∙ c.if-n-eq2.true)

pub returns-then-not-follows-3 : goal.returns-then-not-follows-3
returns-then-not-follows-3 c =
    let few : c.followers-n.result ≤ 4 = rw c.followers-n.ensures (followers_four _) in
    let b = byte_at c.args.s.now c.args.i in
    let second : c.follows.result ≡ within (lowest b) (highest b) (byte_at c.args.s.now (c.args.i + 1)) = c.follows.ensures ∙ ap (λ (p : ℕ × ℕ). within p.0 p.1 (byte_at c.args.s.now (c.args.i + 1))) c.second-low.ensures in
    let three = only-three _ few c.if-n-eq0.false c.if-n-eq4.false c.if-n-eq1.false c.if-n-eq2.false in
    fourth_off _ _ c.requires (sym second ∙ c.if-not-follows.false) (sym c.follows-2.ensures ∙ c.if-not-follows-2.false)
    (sym c.followers-n.ensures ∙ three) (sym c.follows-3.ensures ∙ c.if-not-follows-3.true)

pub returns : goal.returns
returns c =
    let few : c.followers-n.result ≤ 4 = rw c.followers-n.ensures (followers_four _) in
    let b = byte_at c.args.s.now c.args.i in
    let second : c.follows.result ≡ within (lowest b) (highest b) (byte_at c.args.s.now (c.args.i + 1)) = c.follows.ensures ∙ ap (λ (p : ℕ × ℕ). within p.0 p.1 (byte_at c.args.s.now (c.args.i + 1))) c.second-low.ensures in
    let three = only-three _ few c.if-n-eq0.false c.if-n-eq4.false c.if-n-eq1.false c.if-n-eq2.false in
    sequence_four _ _ c.requires (sym second ∙ c.if-not-follows.false) (sym c.follows-2.ensures ∙ c.if-not-follows-2.false)
    (sym c.followers-n.ensures ∙ three) (sym c.follows-3.ensures ∙ c.if-not-follows-3.false)
