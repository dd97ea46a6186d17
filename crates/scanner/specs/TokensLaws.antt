-- The tokens of a line cover it: one token, the tokens one after the other, and the bytes that they name.
-- Look for `token_good`, `tokens_on_lem`, `tokens_cover`, `tokens_bytes`. Assumes nothing.
use Rattle.std.specs.Prelude.{◌≡◌, Bool, cond, length, take, drop, Option, Some, None}
use Rattle.std.proofs.Math.Path.{refl, ap}
use Rattle.std.proofs.Common.{◌∙◌, sym, drop_of_length-le, drop-drop}
use Rattle.std.proofs.Math.Bool.{true, false}
use mathlib.Core.List.{List, [], ◌∷◌, ◌++◌}
use Prim.Native.Nat.{ℕ, zero, suc, ◌+◌, ◌-◌, ◌<◌, ◌≤◌}
use native.Mathlib.Omega.{arith}
use Rattle.std.proofs.Math.Decide.{dec_lt}
use Rattle.std.proofs.Math.Dec.{eqb, leb, ltb}
use borrow.Author.Tests.{ltb-true, leb-true, le-leb, lt-leb}
use Rattle.scan.specs.Bytes.{is_space, is_text}
use Rattle.scan.specs.Scan.{run_at, byte_at, part_of}
use Rattle.scan.specs.RunLaws.{run_at_le, run_at_on, run_at_within}
use Rattle.lists.specs.Lists.{item_at}
use Rattle.lists.specs.ListLaws.{item_in}
use Rattle.scanner.specs.Tokens.{token, end_token, lead_of, pieces, piece_at, parted, newline_token, item_token, argument_token, token_at, tokens_from, tokens_at, tokens_of}
use Rattle.scanner.specs.Cover.{Covers, bytes_of}
use Rattle.scanner.specs.LeadLaws.{Good, piece_good, lead_inside, lead_upto}
use Rattle.scanner.specs.declared.token.TokenKind.{TokenKind}
use Rattle.scanner.specs.declared.token.Token.{Token}

-- one token --------------------------------------------------------------------------------------------------------------------------

text_byte : (b : ℕ) → eqb b 0x0A ≡ false → is_text b ≡ true
unfolding is_text
text_byte b e = rw e

module _ (s : List ℕ) (i : ℕ) (h : i < length s) where
  -- a run that has its first byte
  run_good : (p : ℕ → Bool) (k : TokenKind) → p (byte_at s i) ≡ true → Good i (length s) (token k i (run_at p s i))
  run_good p k e = record { starts = refl; past = omega (arith, run_at_on p s i h e, run_at_le p s (i + 1)); inside = run_at_within p s i (omega arith) }

  item_good : (t : Option ℕ) → item_at s i ≡ t → eqb (byte_at s i) 0x0A ≡ false → Good i (length s) (item_token s i t)
  unfolding item_token
  item_good None e f = run_good is_text TokenKind.Unlisted (text_byte (byte_at s i) f)
  item_good (Some j) e f = go (parted s j) (eqb (byte_at s i) 0x22)
    where
      go : (a b : Bool) → Good i (length s) (cond a (cond b (token TokenKind.Quoted i j) (token TokenKind.Text i j)) (token TokenKind.Unlisted i (run_at is_text s i)))
      go true true = let r = item_in s i j e in record { starts = refl; past = r.after; inside = r.within }
      go true false = let r = item_in s i j e in record { starts = refl; past = r.after; inside = r.within }
      go false b = run_good is_text TokenKind.Unlisted (text_byte (byte_at s i) f)

  pub argument_good : Good i (length s) (argument_token s i)
  unfolding argument_token newline_token
  argument_good = go (leb (length s) i) (is_space (byte_at s i)) (eqb (byte_at s i) 0x0A) (eqb (i + 1) (length s)) refl refl refl
    where
      go : (a b c d : Bool) → leb (length s) i ≡ a → is_space (byte_at s i) ≡ b → eqb (byte_at s i) 0x0A ≡ c →
          Good i (length s) (cond a (end_token s) (cond b (token TokenKind.Space i (run_at is_space s i))
          (cond c (cond d (token TokenKind.Newline i (i + 1)) (token TokenKind.Left i (length s))) (item_token s i (item_at s i)))))
      go true b c d p q r = absurd (omega (arith, leb-true (length s) i p))
      go false true c d p q r = run_good is_space TokenKind.Space q
      go false false true true p q r = record { starts = refl; past = omega arith; inside = omega arith }
      go false false true false p q r = record { starts = refl; past = h; inside = omega arith }
      go false false false d p q r = item_good (item_at s i) refl r

  -- within the line, the token at i starts there, has at least one byte and stops within the line
  pub token_good : Good i (length s) (token_at s i)
  unfolding token_at
  token_good = go (ltb i (lead_of s).argument) refl
    where
      go : (b : Bool) → ltb i (lead_of s).argument ≡ b → Good i (length s) (cond b (piece_at (pieces (lead_of s)) i) (argument_token s i))
      go true e =
          let g = piece_good 0 (lead_of s).argument i (pieces (lead_of s)) (lead_upto s) (omega arith) (ltb-true i (lead_of s).argument e) in
          record { starts = g.starts; past = g.past; inside = omega (arith, g.inside, lead_inside s) }
      go false e = argument_good

-- the tokens, one after the other ------------------------------------------------------------------------------------------------------

module _ (s : List ℕ) where
  pub from_end : (n i : ℕ) → length s ≤ i → tokens_from n s i ≡ []
  unfolding tokens_from
  from_end zero i h = refl
  from_end (suc n) i h = rw (le-leb (length s) i h, tokens_from)

  pub from_on : (n i : ℕ) → i < length s → tokens_from (suc n) s i ≡ token_at s i ∷ tokens_from n s (token_at s i).stop
  unfolding tokens_from
  from_on n i h = rw (lt-leb (length s) i h, tokens_from)

  -- more tokens than bytes are the same tokens
  enough : (m n i : ℕ) → length s - i ≤ m → length s - i ≤ n → tokens_from m s i ≡ tokens_from n s i
  enough zero n i h k = from_end zero i (omega arith) ∙ sym (from_end n i (omega arith))
  enough (suc m) zero i h k = from_end (suc m) i (omega arith) ∙ sym (from_end zero i (omega arith))
  enough (suc m) (suc n) i h k = go (dec_lt i (length s)) (enough m n (token_at s i).stop)
    where
      go : Dec (i < length s) → (length s - (token_at s i).stop ≤ m → length s - (token_at s i).stop ≤ n → tokens_from m s (token_at s i).stop ≡ tokens_from n s (token_at s i).stop) →
          tokens_from (suc m) s i ≡ tokens_from (suc n) s i
      go (no l) r = from_end (suc m) i (omega arith) ∙ sym (from_end (suc n) i (omega arith))
      go (yes l) r =
          let g = token_good s i l in
          from_on m i l
          ∙ ap (λ (ts : List Token). token_at s i ∷ ts) (r (omega (arith, g.past, g.inside)) (omega (arith, g.past, g.inside)))
          ∙ sym (from_on n i l)

  pub tokens_on_lem : (i : ℕ) → i < length s → tokens_at s i ≡ token_at s i ∷ tokens_at s (token_at s i).stop
  unfolding tokens_at
  tokens_on_lem i h =
      let j = (token_at s i).stop in
      enough (length s - i) (suc (length s)) i (omega arith) (omega arith)
      ∙ from_on (length s) i h
      ∙ ap (λ (ts : List Token). token_at s i ∷ ts) (enough (length s) (length s - j) j (omega arith) (omega arith))

  covers_from : (n i : ℕ) → length s - i ≤ n → i ≤ length s → Covers i (length s) (tokens_from n s i)
  covers_from zero i h k = rw (from_end zero i (omega arith)) (omega arith)
  covers_from (suc n) i h k = go (dec_lt i (length s)) (covers_from n (token_at s i).stop)
    where
      go : Dec (i < length s) → (length s - (token_at s i).stop ≤ n → (token_at s i).stop ≤ length s → Covers (token_at s i).stop (length s) (tokens_from n s (token_at s i).stop)) →
          Covers i (length s) (tokens_from (suc n) s i)
      go (no l) r = rw (from_end (suc n) i (omega arith)) (omega arith)
      go (yes l) r =
          let g = token_good s i l in
          rw (from_on n i l) (g.starts, g.past, r (omega (arith, g.past)) g.inside)

  -- at the end no token is left
  pub tokens_end : (i : ℕ) → length s ≤ i → tokens_at s i ≡ []
  unfolding tokens_at
  tokens_end i h = from_end (length s - i) i h

  -- from any place of the line on
  pub tokens_cover_at : (i : ℕ) → i ≤ length s → Covers i (length s) (tokens_at s i)
  unfolding tokens_at
  tokens_cover_at i h = covers_from (length s - i) i (omega arith) h

  -- the first token starts at 0, each of the others where the one before it stopped, and the last stops at the end
  pub tokens_cover : Covers 0 (length s) (tokens_of s)
  unfolding tokens_of tokens_at
  tokens_cover = covers_from (length s - 0) 0 (omega arith) (omega arith)

-- the bytes that they name -------------------------------------------------------------------------------------------------------------

pub covers_le : (i e : ℕ) (ts : List Token) → Covers i e ts → i ≤ e
covers_le i e [] h = omega arith
covers_le i e (t ∷ ts) h =
    let p = h.1 in
    let r = covers_le t.stop e ts h.2 in
    omega arith

-- what stands from i up to j, and what stands from j on
pub part_drop : (s : List ℕ) (i j : ℕ) → i ≤ j → part_of s i j ++ drop j s ≡ drop i s
part_drop s i j h =
    let e : i + (j - i) ≡ j = omega arith in
    ap (λ (n : ℕ). part_of s i j ++ drop n s) (sym e)
    ∙ ap (λ (r : List ℕ). part_of s i j ++ r) (sym (drop-drop (j - i) i s))
    ∙ take_drop (j - i) (drop i s)
  where
    take_drop : (n : ℕ) (xs : List ℕ) → take n xs ++ drop n xs ≡ xs
    take_drop zero xs = refl
    take_drop (suc n) [] = refl
    take_drop (suc n) (x ∷ xs) = ap (λ (r : List ℕ). x ∷ r) (take_drop n xs)

covers_bytes : (s : List ℕ) (i : ℕ) (ts : List Token) → Covers i (length s) ts → bytes_of s ts ≡ drop i s
unfolding bytes_of
covers_bytes s i [] h = let k : length s ≤ i = omega arith in sym (drop_of_length-le s k)
covers_bytes s i (t ∷ ts) h =
    let p = h.1 in
    ap (λ (n : ℕ). part_of s n t.stop ++ bytes_of s ts) h.0
    ∙ ap (λ (r : List ℕ). part_of s i t.stop ++ r) (covers_bytes s t.stop ts h.2)
    ∙ part_drop s i t.stop (omega arith)

-- all of them together are the line
pub tokens_bytes : (s : List ℕ) → bytes_of s (tokens_of s) ≡ s
tokens_bytes s = covers_bytes s 0 (tokens_of s) (tokens_cover s)
