-- A line whose reading is accepted: nothing is left over, and what is of no list stands within its argument.
-- Look for `command_left`, `command_unlisted`. Assumes nothing.
use Rattle.std.specs.Prelude.{◌≡◌, Bool, true, false, eqb, Ok}
use Rattle.std.proofs.Math.Path.{refl, sym, ap}
use Rattle.std.proofs.Common.{◌∙◌, subst, arith}
use mathlib.Core.List.{List, [], ◌∷◌}
use Prim.Native.Nat.{ℕ, zero, suc, ◌+◌, ◌-◌, ◌<◌, ◌≤◌}
use Rattle.std.proofs.Math.Decide.{dec_lt}
use Rattle.std.proofs.Math.ListN.{length}
use borrow.Author.Tests.{lt-leb, eq-eqb}
use Rattle.scan.specs.Bytes.{is_space, is_text}
use Rattle.scan.specs.Scan.{run_at, byte_at}
use Rattle.scan.specs.RunLaws.{run_at_le, run_at_within}
use Rattle.reading.specs.Line.{skip_byte, reading_of}
use Rattle.reading.specs.LineLaws.{parsed, places}
use Rattle.reading.specs.declared.line.CommandDescription.{CommandDescription}
use Rattle.scanner.specs.Tokens.{token, lead_of, newline_token, argument_token, token_at, tokens_from, tokens_at, tokens_of}
use Rattle.scanner.specs.Cover.{Within, kind_no, of_kind}
use Rattle.scanner.specs.LeadLaws.{lead_inside}
use Rattle.scanner.specs.TokensLaws.{token_good, from_end, from_on}
use Rattle.scanner.specs.ReadLaws.{token_behind, left_behind, unlisted_behind, argument_read}
use Rattle.scanner.specs.StopLaws.{line_end, line_stop, line_kind}
use Rattle.scanner.specs.declared.token.TokenKind.{TokenKind}
use Rattle.scanner.specs.declared.token.Token.{Token}

-- one token more, whether it is of the kind or not
within_on : (a e : ℕ) (k : TokenKind) (t : Token) (ts : List Token) → a ≤ t.start → t.stop ≤ e → Within a e (of_kind k ts) → Within a e (of_kind k (t ∷ ts))
unfolding of_kind
within_on a e k t ts h l r = go (eqb (kind_no t.kind) (kind_no k)) refl
  where
    go : (b : Bool) → eqb (kind_no t.kind) (kind_no k) ≡ b → Within a e (of_kind k (t ∷ ts))
    go true q = rw (q, of_kind) (h, l, r)
    go false q = rw (q, of_kind) r

module _ (s : List ℕ) (e : ℕ) (r : run_at is_text s (lead_of s).argument ≡ e) (f : skip_byte s e 0x0A ≡ length s) where
  -- what stands behind the argument is one 0x0A
  pub behind_token : e < length s → token_at s e ≡ token TokenKind.Newline e (length s)
  unfolding argument_token newline_token is_space skip_byte
  behind_token h =
      let b : byte_at s e ≡ 0x0A = line_end s (lead_of s).argument e r h in
      let n : e + 1 ≡ length s = sym (rw b) ∙ f in
      token_behind s e (omega (arith, r, run_at_le is_text s (lead_of s).argument))
      ∙ rw (lt-leb (length s) e h, b, eq-eqb (e + 1) (length s) n) (ap (token TokenKind.Newline e) n)

  -- of all kinds but that one, nothing stands there
  behind_none : (k : TokenKind) → eqb (kind_no TokenKind.Newline) (kind_no k) ≡ false → (n : ℕ) → of_kind k (tokens_from (suc n) s e) ≡ []
  unfolding of_kind
  behind_none k f n = go (dec_lt e (length s))
    where
      go : Dec (e < length s) → of_kind k (tokens_from (suc n) s e) ≡ []
      go (no l) = rw (from_end s (suc n) e (omega arith))
      go (yes l) =
          ap (of_kind k)
          (from_on s n e l
          ∙ ap (λ (t : Token). t ∷ tokens_from n s t.stop) (behind_token l)
          ∙ ap (λ (ts : List Token). token TokenKind.Newline e (length s) ∷ ts) (from_end s n (length s) (omega arith)))
          ∙ rw (f, of_kind)

  left_none : (n i : ℕ) → (lead_of s).argument ≤ i → i ≤ e → of_kind TokenKind.Left (tokens_from n s i) ≡ []
  unfolding of_kind tokens_from kind_no
  left_none zero i h l = refl
  left_none (suc n) i h l = go (dec_lt i e) (left_none n (token_at s i).stop)
    where
      a : ℕ
      a = (lead_of s).argument

      go : Dec (i < e) → (a ≤ (token_at s i).stop → (token_at s i).stop ≤ e → of_kind TokenKind.Left (tokens_from n s (token_at s i).stop) ≡ []) →
          of_kind TokenKind.Left (tokens_from (suc n) s i) ≡ []
      go (no k) q = let w : e ≡ i = omega arith in subst (λ (m : ℕ). of_kind TokenKind.Left (tokens_from (suc n) s m) ≡ []) w (behind_none TokenKind.Left refl n)
      go (yes k) q =
          let m : i < length s = omega (arith, r, run_at_within is_text s a (lead_inside s)) in
          let g = token_good s i m in
          rw (from_on s n i m, line_kind s e r i h k, of_kind) (q (omega (arith, g.past)) (line_stop s e r i k))

  unlisted_within : (n i : ℕ) → (lead_of s).argument ≤ i → i ≤ e → Within (lead_of s).argument e (of_kind TokenKind.Unlisted (tokens_from n s i))
  unfolding of_kind tokens_from kind_no
  unlisted_within zero i h l = tt
  unlisted_within (suc n) i h l = go (dec_lt i e) (unlisted_within n (token_at s i).stop)
    where
      a : ℕ
      a = (lead_of s).argument

      go : Dec (i < e) → (a ≤ (token_at s i).stop → (token_at s i).stop ≤ e → Within a e (of_kind TokenKind.Unlisted (tokens_from n s (token_at s i).stop))) →
          Within a e (of_kind TokenKind.Unlisted (tokens_from (suc n) s i))
      go (no k) q =
          let w : e ≡ i = omega arith in
          subst (λ (m : ℕ). Within a e (of_kind TokenKind.Unlisted (tokens_from (suc n) s m))) w (rw (behind_none TokenKind.Unlisted refl n) tt)
      go (yes k) q =
          let m : i < length s = omega (arith, r, run_at_within is_text s a (lead_inside s)) in
          let g = token_good s i m in
          let p = line_stop s e r i k in
          rw (from_on s n i m)
          (within_on a e TokenKind.Unlisted (token_at s i) (tokens_from n s (token_at s i).stop) (omega (arith, g.starts)) p (q (omega (arith, g.past)) p))

module _ (s : List ℕ) (d : CommandDescription) (h : reading_of s ≡ Ok d) where
  -- where the argument ends
  argument_ends : run_at is_text s (lead_of s).argument ≡ d.stop
  argument_ends = ap (run_at is_text s) (argument_read s d h) ∙ (parsed s d h).stopped

  -- where the reading is accepted, nothing is left over
  pub command_left : of_kind TokenKind.Left (tokens_of s) ≡ []
  unfolding tokens_at
  command_left =
      let p = parsed s d h in
      let a = argument_read s d h in
      left_behind s d h
      ∙ left_none s d.stop argument_ends p.ended (length s - d.argument) d.argument (omega arith) (omega (arith, (places s d p).stops))

  -- and what is of no list starts in the argument and stops there
  pub command_unlisted : Within d.argument d.stop (of_kind TokenKind.Unlisted (tokens_of s))
  unfolding tokens_at
  command_unlisted =
      let p = parsed s d h in
      let a = argument_read s d h in
      rw (unlisted_behind s d h)
      (subst (λ (n : ℕ). Within n d.stop (of_kind TokenKind.Unlisted (tokens_at s n))) a
      (unlisted_within s d.stop argument_ends p.ended (length s - (lead_of s).argument) (lead_of s).argument (omega arith) (omega (arith, (places s d p).stops))))
