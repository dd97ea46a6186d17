-- What a scanner hands out: the tokens of its line, each once and in order, and then that nothing is left, for ever.
-- Look for `new_hands`, `tokens_no_end`. Assumes nothing.
use Rattle.std.specs.Prelude.{◌≡◌, Bool, cond, eqb, Option, Some, None}
use Rattle.std.proofs.Math.Path.{refl, ap}
use Rattle.std.proofs.Common.{◌∙◌, sym}
use Rattle.std.proofs.Math.Bool.{true, false}
use mathlib.Core.List.{List, [], ◌∷◌, ◌++◌}
use Prim.Native.Nat.{ℕ, zero, suc, ◌+◌, ◌-◌, ◌<◌, ◌≤◌}
use native.Mathlib.Omega.{arith}
use Rattle.std.proofs.Math.Decide.{dec_lt}
use Rattle.std.proofs.Math.ListN.{length}
use Rattle.std.proofs.lemmas.Bool.{lt-leb}
use Rattle.scan.specs.Bytes.{is_space, is_text}
use Rattle.scan.specs.Scan.{run_at, byte_at}
use Rattle.lists.specs.Lists.{item_at}
use Rattle.scanner.specs.Tokens.{token, end_token, lead_of, pieces, parted, newline_token, item_token, argument_token, token_at, tokens_from, tokens_at, tokens_of, position_at, step_at, handed, ends}
use Rattle.scanner.specs.Cover.{kind_no, of_kind}
use Rattle.scanner.specs.LeadLaws.{piece_all, lead_upto}
use Rattle.scanner.specs.TokensLaws.{token_good, from_end, from_on}
use Rattle.scanner.specs.ReadLaws.{token_lead, token_behind}
use Rattle.scanner.specs.StepLaws.{step_from_lem, token_end}
use Rattle.scanner.specs.declared.token.TokenKind.{TokenKind}
use Rattle.scanner.specs.declared.token.Token.{Token}
use Rattle.scanner.specs.declared.token.Position.{Position}
use Rattle.scanner.specs.declared.token.Scanned.{Scanned}

-- the tokens, and then the end -----------------------------------------------------------------------------------------------------------

module _ (s : List ℕ) where
  -- where a scanner stands that goes on at i
  at : ℕ → Position
  at i = position_at (lead_of s).argument i

  -- one token more
  handed_on : (n i : ℕ) → handed (suc n) s (at i) ≡ token_at s i ∷ handed n s (at (token_at s i).stop)
  unfolding handed at
  handed_on n i = ap (λ (r : Scanned). r.token ∷ handed n s r.position) (step_from_lem s i)

  handed_end : (n : ℕ) → handed n s (at (length s)) ≡ ends n s
  unfolding handed ends
  handed_end zero = refl
  handed_end (suc n) =
      handed_on n (length s)
      ∙ ap (λ (t : Token). t ∷ handed n s (at t.stop)) (token_end s (length s) (omega arith))
      ∙ ap (λ (ts : List Token). end_token s ∷ ts) (handed_end n)

  handed_from : (m i n : ℕ) → length s - i ≤ m → i ≤ length s → handed (length (tokens_from m s i) + n) s (at i) ≡ tokens_from m s i ++ ends n s
  unfolding tokens_from
  handed_from zero i n h k =
      let e : i ≡ length s = omega arith in
      let z : 0 + n ≡ n = omega arith in
      rw (z, e) (handed_end n)
  handed_from (suc m) i n h k = go (dec_lt i (length s)) (handed_from m (token_at s i).stop n)
    where
      go : Dec (i < length s) → (length s - (token_at s i).stop ≤ m → (token_at s i).stop ≤ length s →
          handed (length (tokens_from m s (token_at s i).stop) + n) s (at (token_at s i).stop) ≡ tokens_from m s (token_at s i).stop ++ ends n s) →
          handed (length (tokens_from (suc m) s i) + n) s (at i) ≡ tokens_from (suc m) s i ++ ends n s
      go (no l) r =
          let e : i ≡ length s = omega arith in
          let z : 0 + n ≡ n = omega arith in
          rw (from_end s (suc m) i (omega arith), z, e) (handed_end n)
      go (yes l) r =
          let g = token_good s i l in
          let ts = tokens_from m s (token_at s i).stop in
          let z : suc (length ts) + n ≡ suc (length ts + n) = omega arith in
          rw (from_on s m i l, z)
          (handed_on (length ts + n) i ∙ ap (λ (us : List Token). token_at s i ∷ us) (r (omega (arith, g.past, g.inside)) g.inside))

  -- from the line's start, whether the line has a lead or not
  handed_lead : (n i : ℕ) → handed n s (Position.Lead i) ≡ handed n s (at i)
  unfolding handed step_at at
  handed_lead zero i = refl
  handed_lead (suc n) i = ap (λ (r : Scanned). r.token ∷ handed n s r.position) (sym (step_from_lem s i))

  -- a scanner from `new` hands out the tokens of its line, and then the end as often as it is asked
  pub new_hands : (n : ℕ) → handed (length (tokens_of s) + n) s (Position.Lead 0) ≡ tokens_of s ++ ends n s
  unfolding tokens_of tokens_at
  new_hands n = handed_lead (length (tokens_at s 0) + n) 0 ∙ handed_from (length s - 0) 0 n (omega arith) (omega arith)

-- none of the tokens is the end ------------------------------------------------------------------------------------------------------------

is_end : TokenKind → Bool
is_end k = eqb (kind_no k) (kind_no TokenKind.End)

module _ (s : List ℕ) (i : ℕ) (h : i < length s) where
  item_no_end : (t : Option ℕ) → is_end (item_token s i t).kind ≡ false
  unfolding is_end item_token kind_no
  item_no_end None = refl
  item_no_end (Some j) = go (parted s j) (eqb (byte_at s i) 0x22)
    where
      go : (a b : Bool) → is_end (cond a (cond b (token TokenKind.Quoted i j) (token TokenKind.Text i j)) (token TokenKind.Unlisted i (run_at is_text s i))).kind ≡ false
      go true true = refl
      go true false = refl
      go false b = refl

  argument_no_end : is_end (argument_token s i).kind ≡ false
  unfolding is_end argument_token newline_token kind_no
  argument_no_end = rw (lt-leb (length s) i h) (go (is_space (byte_at s i)) (eqb (byte_at s i) 0x0A) (eqb (i + 1) (length s)))
    where
      go : (b c d : Bool) → is_end (cond b (token TokenKind.Space i (run_at is_space s i))
          (cond c (cond d (token TokenKind.Newline i (i + 1)) (token TokenKind.Left i (length s))) (item_token s i (item_at s i)))).kind ≡ false
      go true c d = refl
      go false true true = refl
      go false true false = refl
      go false false d = item_no_end (item_at s i)

  token_no_end : is_end (token_at s i).kind ≡ false
  unfolding is_end pieces kind_no
  token_no_end = go (dec_lt i (lead_of s).argument)
    where
      go : Dec (i < (lead_of s).argument) → is_end (token_at s i).kind ≡ false
      go (yes l) =
          rw (token_lead s i l)
          (piece_all (λ k n. is_end k ≡ false) 0 (lead_of s).argument i (pieces (lead_of s)) (lead_upto s) (refl, (refl, (refl, (refl, (refl, (refl, (refl, (refl, (refl, tt))))))))) (omega arith) l)
      go (no l) = rw (token_behind s i (omega arith)) argument_no_end

no_end_from : (s : List ℕ) (n i : ℕ) → of_kind TokenKind.End (tokens_from n s i) ≡ []
unfolding tokens_from of_kind is_end
no_end_from s zero i = refl
no_end_from s (suc n) i = go (dec_lt i (length s)) (no_end_from s n (token_at s i).stop)
  where
    go : Dec (i < length s) → of_kind TokenKind.End (tokens_from n s (token_at s i).stop) ≡ [] → of_kind TokenKind.End (tokens_from (suc n) s i) ≡ []
    go (no l) r = ap (of_kind TokenKind.End) (from_end s (suc n) i (omega arith))
    go (yes l) r = ap (of_kind TokenKind.End) (from_on s n i l) ∙ rw (token_no_end s i l, of_kind) r

-- so the end that a scanner hands out first is behind all of them
pub tokens_no_end : (s : List ℕ) → of_kind TokenKind.End (tokens_of s) ≡ []
unfolding tokens_of tokens_at
tokens_no_end s = no_end_from s (length s - 0) 0
