-- The token that covers a place of a line: within the line it is one of the line's tokens, and the place stands in it; behind the line it
-- is the end. Look for `covering_covers`, `covering_end`. Assumes nothing.
use Rattle.std.specs.Prelude.{◌≡◌, ℕ, ◌<◌, ◌≤◌, length}
use Rattle.std.proofs.Math.Path.{refl}
use Rattle.std.proofs.Common.{◌∙◌, arith, lt-ltb, le-ltb}
use mathlib.Core.List.Memᴰ
use mathlib.Core.List.{List, [], ◌∷◌}
use Rattle.std.proofs.Math.Decide.{dec_lt}
use Rattle.scanner.specs.Tokens.{end_token, tokens_of, first_past, covering}
use Rattle.scanner.specs.Cover.{Covers, CoveredBy}
use Rattle.scanner.specs.TokensLaws.{covers_le, tokens_cover}
use Rattle.scanner.specs.declared.token.Token.{Token}

module _ (e : Token) (i : ℕ) where
  module _ (t : Token) (ts : List Token) where
    pub past_here : i < t.stop → first_past e i (t ∷ ts) ≡ t
    unfolding first_past
    past_here h = rw (lt-ltb i t.stop h, first_past)

    pub past_later : t.stop ≤ i → first_past e i (t ∷ ts) ≡ first_past e i ts
    unfolding first_past
    past_later h = rw (le-ltb i t.stop h, first_past)

  -- none of tokens that go up to n covers a place from n on
  past_none : (j n : ℕ) (ts : List Token) → Covers j n ts → n ≤ i → first_past e i ts ≡ e
  unfolding first_past
  past_none j n [] c h = refl
  past_none j n (t ∷ ts) c h = past_later t ts (omega (arith, covers_le t.stop n ts c.2)) ∙ past_none t.stop n ts c.2 h

  -- and one of them covers each place before n
  past_covers : (j n : ℕ) (ts : List Token) → Covers j n ts → j ≤ i → i < n → CoveredBy ts i (first_past e i ts)
  past_covers j n [] c h k = absurd (omega (arith, c))
  past_covers j n (t ∷ ts) c h k = go (dec_lt i t.stop) (past_covers t.stop n ts c.2)
    where
      go : Dec (i < t.stop) → (t.stop ≤ i → i < n → CoveredBy ts i (first_past e i ts)) → CoveredBy (t ∷ ts) i (first_past e i (t ∷ ts))
      go (yes l) r = rw (past_here t ts l) (record { listed = Memᴰ.head refl; from = omega (arith, c.0); to = l })
      go (no l) r =
          let q = r (omega arith) k in
          rw (past_later t ts (omega arith)) (record { listed = Memᴰ.tail q.listed; from = q.from; to = q.to })

-- within the line: one of its tokens, from its first byte on and before the byte past its last
pub covering_covers : (s : List ℕ) (i : ℕ) → i < length s → CoveredBy (tokens_of s) i (covering s i)
unfolding covering
covering_covers s i h = past_covers (end_token s) i 0 (length s) (tokens_of s) (tokens_cover s) (omega arith) h

pub covering_end : (s : List ℕ) (i : ℕ) → length s ≤ i → covering s i ≡ end_token s
unfolding covering
covering_end s i h = past_none (end_token s) i 0 (length s) (tokens_of s) (tokens_cover s) h
