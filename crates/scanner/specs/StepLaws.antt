-- A scanner and the tokens of its line: one step of it is one token, and a loop over steps finds the token that covers a place.
-- Look for `step_from_lem`, `Standing`, `Passed`. Assumes nothing.
use Rattle.std.specs.Prelude.{◌≡◌, Bool, true, false, cond, List, ℕ, ◌<◌, ◌≤◌, ltb, length}
use Rattle.std.proofs.Math.Path.{refl}
use Rattle.std.proofs.Common.{◌∙◌, sym, ap, arith, ltb-false, le-ltb, le-leb}
use Rattle.std.proofs.Math.Decide.{dec_lt}
use Rattle.scanner.specs.Tokens.{end_token, lead_of, argument_token, token_at, tokens_at, tokens_of, position_at, step_at, first_past, covering}
use Rattle.scanner.specs.LeadLaws.{lead_inside}
use Rattle.scanner.specs.TokensLaws.{argument_good, token_good, tokens_on_lem}
use Rattle.scanner.specs.ReadLaws.{token_behind}
use Rattle.scanner.specs.CoveringLaws.{past_here, past_later}
use Rattle.scanner.specs.declared.token.Position.{Position}
use Rattle.scanner.specs.declared.token.Scanned.{Scanned}

-- one step ---------------------------------------------------------------------------------------------------------------------------

-- the token at i, and where a scanner stands past it
abbrev pub step_from : List ℕ → ℕ → Scanned
step_from s i = record { token = token_at s i; position = position_at (lead_of s).argument (token_at s i).stop }

-- no token of an argument stops before the argument
argument_past : (s : List ℕ) (i g : ℕ) → g ≤ i → g ≤ length s → g ≤ (argument_token s i).stop
unfolding argument_token
argument_past s i g h k = go (dec_lt i (length s))
  where
    go : Dec (i < length s) → g ≤ (argument_token s i).stop
    go (yes l) = omega (arith, (argument_good s i l).past)
    go (no l) = rw (le-leb (length s) i (omega arith)) k

-- a scanner that goes on at i hands out the token at i, and goes on where it stops
pub step_from_lem : (s : List ℕ) (i : ℕ) → step_at s (position_at (lead_of s).argument i) ≡ step_from s i
unfolding step_at position_at
step_from_lem s i = go (ltb i (lead_of s).argument) refl
  where
    go : (b : Bool) → ltb i (lead_of s).argument ≡ b → step_at s (cond b (Position.Lead i) (Position.Argument i)) ≡ step_from s i
    go true e = refl
    go false e =
        let h = ltb-false i (lead_of s).argument e in
        rw (token_behind s i h, le-ltb (argument_token s i).stop (lead_of s).argument (argument_past s i (lead_of s).argument h (lead_inside s)))

-- at the line's end and behind it nothing is left
pub token_end : (s : List ℕ) (i : ℕ) → length s ≤ i → token_at s i ≡ end_token s
unfolding argument_token
token_end s i h = token_behind s i (omega (arith, lead_inside s)) ∙ rw (le-leb (length s) i h)

-- r is the step from a place of the line, or from its end
pub record Standing (s : List ℕ) (r : Scanned) : Type 0 where
  pub place : ℕ
  pub inside : place ≤ length s
  pub is : r ≡ step_from s place

pub standing_first : (s : List ℕ) → Standing s (step_at s (Position.Lead 0))
unfolding step_at
standing_first s = record { place = 0; inside = omega arith; is = refl }

module _ (s : List ℕ) where
  -- a token stops within the line, and starts where it is read
  token_inside : (i : ℕ) → i ≤ length s → (token_at s i).stop ≤ length s
  token_inside i h = go (dec_lt i (length s))
    where
      go : Dec (i < length s) → (token_at s i).stop ≤ length s
      go (yes l) = (token_good s i l).inside
      go (no l) = rw (token_end s i (omega arith)) (omega arith)

  token_start : (i : ℕ) → i ≤ length s → (token_at s i).start ≡ i
  token_start i h = go (dec_lt i (length s))
    where
      go : Dec (i < length s) → (token_at s i).start ≡ i
      go (yes l) = (token_good s i l).starts
      go (no l) = rw (token_end s i (omega arith)) (omega arith)

module _ (s : List ℕ) (r : Scanned) (p : Standing s r) where
  next_is : step_at s r.position ≡ step_from s (token_at s p.place).stop
  next_is = ap (λ (x : Scanned). step_at s x.position) p.is ∙ step_from_lem s (token_at s p.place).stop

  pub standing_next : Standing s (step_at s r.position)
  standing_next = record { place = (token_at s p.place).stop; inside = token_inside s p.place p.inside; is = next_is }

  -- before the end a scanner moves on
  pub standing_moves : r.token.start < length s → r.token.start < (step_at s r.position).token.start
  standing_moves h =
      let i = p.place in
      let a = ap (λ (x : Scanned). x.token.start) p.is in
      let b = token_start s i p.inside in
      let c = ap (λ (x : Scanned). x.token.start) next_is in
      let d = token_start s (token_at s i).stop (token_inside s i p.inside) in
      omega (arith, a, b, c, d, (token_good s i (omega (arith, a, b))).past)

-- a loop over steps --------------------------------------------------------------------------------------------------------------------

-- the tokens of the line before a place are passed, and none of them covers i; r is the step from that place
pub record Passed (s : List ℕ) (i : ℕ) (r : Scanned) : Type 0 where
  pub place : ℕ
  pub inside : place < length s
  pub is : r ≡ step_from s place
  pub rest : first_past (end_token s) i (tokens_at s place) ≡ covering s i

module _ (s : List ℕ) (i : ℕ) (h : i < length s) where
  pub passed_none : Passed s i (step_at s (Position.Lead 0))
  unfolding step_at covering tokens_of
  passed_none = record { place = 0; inside = omega arith; is = refl; rest = refl }

  module _ (r : Scanned) (p : Passed s i r) where
    stops : r.token.stop ≡ (token_at s p.place).stop
    stops = ap (λ (x : Scanned). x.token.stop) p.is

    -- one token more
    pub passed_on : r.token.stop ≤ i → Passed s i (step_at s r.position)
    passed_on k =
        let t = token_at s p.place in
        record {
          place = t.stop;
          inside = omega (arith, stops);
          is = ap (λ (x : Scanned). step_at s x.position) p.is ∙ step_from_lem s t.stop;
          rest =
              sym (ap (first_past (end_token s) i) (tokens_on_lem s p.place p.inside) ∙ past_later (end_token s) i t (tokens_at s t.stop) (omega (arith, stops)))
              ∙ p.rest;
        }

    -- it stops behind the one before it
    pub passed_less : r.token.stop ≤ i → r.token.stop < (step_at s r.position).token.stop
    passed_less k =
        let j = (token_at s p.place).stop in
        let g = token_good s j (omega (arith, stops)) in
        let e : (step_at s r.position).token.stop ≡ (token_at s j).stop = ap (λ (x : Scanned). (step_at s x.position).token.stop) p.is ∙ ap (λ (x : Scanned). x.token.stop) (step_from_lem s j) in
        omega (arith, g.past, stops, e)

    pub passed_found : i < r.token.stop → r.token ≡ covering s i
    passed_found k =
        ap (λ (x : Scanned). x.token) p.is
        ∙ sym (past_here (end_token s) i (token_at s p.place) (tokens_at s (token_at s p.place).stop) (omega (arith, stops)))
        ∙ sym (ap (first_past (end_token s) i) (tokens_on_lem s p.place p.inside))
        ∙ p.rest
