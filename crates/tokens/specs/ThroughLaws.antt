-- Laws of the tokens of a line through its prefixes: those before a place, one after the other; their bytes; and that there are no more of
-- them than bytes.
-- Look for `before_on`, `before_end`, `before_all`, `through_prefix`, `through_last`, `line_room_lem`. Assumes nothing.
use Rattle.std.specs.Prelude.{◌≡◌, Bool, leb, set}
use Rattle.std.proofs.Math.Path.{refl, ap}
use Rattle.std.proofs.Common.{◌∙◌, sym, add-one, length-take, length-drop, lt-ltb, le-ltb}
use Rattle.std.proofs.Math.Bool.{true, false, cond}
use mathlib.Core.List.{List, [], ◌∷◌, ◌++◌, append-nil}
use Prim.Native.Nat.{ℕ, zero, suc, ◌+◌, ◌-◌, ◌*◌, ◌<◌, ◌≤◌}
use native.Mathlib.Omega.{arith}
use Rattle.std.proofs.Math.Decide.{dec_lt}
use Rattle.std.proofs.Math.ListN.{length, length-append}
use Rattle.limits.specs.Limits.{line_limit}
use Rattle.limits.specs.Refusals.{refusal_no}
use Rattle.limits.specs.declared.refusal.Refusal.{Refusal}
use Rattle.scan.specs.Bytes.{is_text}
use Rattle.scan.specs.Scan.{run_at, part_of}
use Rattle.scan.specs.RunLaws.{run_at_within}
use Rattle.store.specs.Splice.{Put, Room, Writing, writing_start, writing_room, writing_put, writing_end}
use Rattle.scanner.specs.Tokens.{lead_of, pieces, token_in, token_at, tokens_at, tokens_of}
use Rattle.scanner.specs.Cover.{Covers}
use Rattle.scanner.specs.LeadLaws.{lead_inside, lead_upto}
use Rattle.scanner.specs.TokensLaws.{token_good, tokens_on_lem, tokens_end, tokens_cover, tokens_cover_at, covers_le}
use Rattle.scanner.specs.declared.token.Lead.{Lead}
use Rattle.scanner.specs.declared.token.Token.{Token}
use Rattle.words.specs.Words.{Row, lookup_in}
use Rattle.reading.specs.Alone.{at_front}
use Rattle.commands.specs.Run.{role_named, role_at}
use Rattle.layout.specs.Layout.{sound}
use Rattle.tokens.specs.Through.{is_prefix, is_prefixed, word_number, prefix_number, Told, told, told_all, token_size, token_bytes, told_bytes, before, through, texts_end, line_tokens, tokens_on, tokens_no, tokens_count, tokens_store}

-- prefixes --------------------------------------------------------------------------------------------------------------------------------------

-- no word of no byte names a prefix
pub unnamed : (table : List Row) (w : List ℕ) → length w ≡ 0 → is_prefix (role_named table w) ≡ false
unfolding role_named
unnamed table [] h = refl
unnamed table (x ∷ w) h = absurd (omega arith)

pub role_looked_up : (table : List Row) (w : List ℕ) → 0 < length w → role_named table w ≡ role_at (lookup_in table w)
unfolding role_named
role_looked_up table [] h = absurd (omega arith)
role_looked_up table (x ∷ w) h = refl

-- the tokens before a place --------------------------------------------------------------------------------------------------------------------

module _ (s : List ℕ) (e i : ℕ) where
  -- one token more
  pub before_on : i < e → i < length s → before e (tokens_at s i) ≡ token_at s i ∷ before e (tokens_at s (token_at s i).stop)
  unfolding before
  before_on h k =
      ap (before e) (tokens_on_lem s i k)
      ∙ rw (lt-ltb (token_at s i).start e (omega (arith, (token_good s i k).starts)), before)

  pub before_end : e ≤ i → before e (tokens_at s i) ≡ []
  unfolding before
  before_end h = go (dec_lt i (length s))
    where
      go : Dec (i < length s) → before e (tokens_at s i) ≡ []
      go (yes k) =
          ap (before e) (tokens_on_lem s i k)
          ∙ rw (le-ltb (token_at s i).start e (omega (arith, (token_good s i k).starts)), before)
      go (no k) = ap (before e) (tokens_end s i (omega arith))

-- where tokens go up to e, all of them start before it
pub before_all : (i e : ℕ) (ts : List Token) → Covers i e ts → before e ts ≡ ts
unfolding before
before_all i e [] h = refl
before_all i e (t ∷ ts) h =
    let p = h.1 in
    let k = covers_le t.stop e ts h.2 in
    let q = h.0 in
    rw (lt-ltb t.start e (omega arith), before) (ap (λ (us : List Token). t ∷ us) (before_all t.stop e ts h.2))

-- no more of them than bytes
pub before_count : (i m e : ℕ) (ts : List Token) → Covers i m ts → length (before e ts) ≤ e - i
unfolding before
before_count i m e [] h = omega arith
before_count i m e (t ∷ ts) h = go (dec_lt t.start e) (before_count t.stop m e ts h.2)
  where
    go : Dec (t.start < e) → length (before e ts) ≤ e - t.stop → length (before e (t ∷ ts)) ≤ e - i
    go (yes k) r =
        let p = h.1 in
        let q = h.0 in
        rw (lt-ltb t.start e k, before) (omega arith)
    go (no k) r = rw (le-ltb t.start e (omega arith), before) (omega arith)

-- told tokens and their bytes -------------------------------------------------------------------------------------------------------------------

pub told_length : (w o : ℕ) (ts : List Token) → length (told_all w o ts) ≡ length ts
unfolding told_all
told_length w o [] = refl
told_length w o (t ∷ ts) = ap suc (told_length w o ts)

pub bytes_length : (ts : List Told) → length (told_bytes ts) ≡ token_size * length ts
unfolding told_bytes
bytes_length [] = refl
bytes_length (t ∷ ts) = omega (arith, bytes_length ts)

pub bytes_append : (ts us : List Told) → told_bytes (ts ++ us) ≡ told_bytes ts ++ told_bytes us
unfolding told_bytes
bytes_append [] us = refl
bytes_append (t ∷ ts) us = simp (bytes_append ts us)

-- a byte written, and others behind it
pub put_byte_then : {s s₁ u : List ℕ} {at r b : ℕ} → Put (set s at b) s₁ (at + 1) r u → Put s s₁ at r (b ∷ u)
put_byte_then p = record { place = omega (arith, p.place); store = rw add-one at p.store }

-- the token at a place, by a lead that was read before
pub token_in_lem : (s : List ℕ) (l : Lead) (i : ℕ) → l ≡ lead_of s → token_in s l i ≡ token_at s i
unfolding token_at
token_in_lem s l i e = ap (λ (x : Lead). token_in s x i) e

module _ (w o : ℕ) (s : List ℕ) (e i : ℕ) where
  -- what is written of the tokens before e, from i on
  abbrev pub left_at : List ℕ
  left_at = told_bytes (told_all w o (before e (tokens_at s i)))

  pub left_on : i < e → i < length s → left_at ≡ token_bytes (told w o (token_at s i)) ++ told_bytes (told_all w o (before e (tokens_at s (token_at s i).stop)))
  unfolding told_bytes told_all
  left_on h k = ap (λ (ts : List Token). told_bytes (told_all w o ts)) (before_on s e i h k)

  pub left_end : e ≤ i → left_at ≡ []
  unfolding told_bytes told_all
  left_end h = ap (λ (ts : List Token). told_bytes (told_all w o ts)) (before_end s e i h)

-- the texts of a line ---------------------------------------------------------------------------------------------------------------------------

module _ (table : List Row) (line : List ℕ) (e : ℕ) where
  -- the text at f
  abbrev pub text_at : ℕ → List ℕ
  text_at f = part_of line f e

  pub text_length : (f : ℕ) → e ≤ length line → length (text_at f) ≡ e - f
  text_length f k = simp (length-take, length-drop) (omega arith)

  pub through_prefix : (n f : ℕ) → is_prefixed table (text_at f) ≡ true →
      through table line e (suc n) f ≡ told_all prefix_number f (before (lead_of (text_at f)).argument (tokens_of (text_at f))) ++ through table line e n (f + (lead_of (text_at f)).argument)
  unfolding through
  through_prefix n f h = rw (h, through)

  pub through_last : (n f : ℕ) → is_prefixed table (text_at f) ≡ false → through table line e (suc n) f ≡ told_all word_number f (tokens_of (text_at f))
  unfolding through
  through_last n f h = rw (h, through)

  -- no more of them than bytes
  pub through_count : (n f : ℕ) → f ≤ e → e ≤ length line → length (through table line e n f) ≤ e - f
  unfolding through
  through_count zero f h k = omega arith
  through_count (suc n) f h k = go (is_prefixed table (text_at f)) refl (through_count n (f + (lead_of (text_at f)).argument))
    where
      go : (b : Bool) → is_prefixed table (text_at f) ≡ b →
          (f + (lead_of (text_at f)).argument ≤ e → e ≤ length line → length (through table line e n (f + (lead_of (text_at f)).argument)) ≤ e - (f + (lead_of (text_at f)).argument)) →
          length (through table line e (suc n) f) ≤ e - f
      go true p r =
          let a = (lead_of (text_at f)).argument in
          let ts = before a (tokens_of (text_at f)) in
          let size = text_length f k in
          rw (through_prefix n f p, length-append (told_all prefix_number f ts) (through table line e n (f + a)), told_length prefix_number f ts)
          (omega (arith, before_count 0 (length (text_at f)) a (tokens_of (text_at f)) (tokens_cover (text_at f)), lead_inside (text_at f), r (omega (arith, lead_inside (text_at f), size)) k, size))
      go false p r =
          let s = text_at f in
          rw (through_last n f p, told_length word_number f (tokens_of s))
          (omega (arith, ap length (before_all 0 (length s) (tokens_of s) (tokens_cover s)), before_count 0 (length s) (length s) (tokens_of s) (tokens_cover s), text_length f k))

-- a loop over the texts -------------------------------------------------------------------------------------------------------------------------

-- the lead of a text whose word names a prefix has a byte
pub prefixed_past : (table : List Row) (s : List ℕ) → is_prefixed table s ≡ true → 0 < (lead_of s).argument
unfolding is_prefixed pieces
prefixed_past table s h = go (dec_lt 0 (lead_of s).argument)
  where
    go : Dec (0 < (lead_of s).argument) → 0 < (lead_of s).argument
    go (yes k) = k
    go (no k) =
        let u = (lead_upto s).1.1.1.1.1 in
        let v : (lead_of s).word ≡ 0 = omega (arith, u.0, u.1.0, u.1.1.0, u.1.1.1.0) in
        let none : length (part_of s (lead_of s).range (lead_of s).word) ≡ 0 = simp (length-take, length-drop) (omega arith) in
        let z : ◌≡◌ {A = ℕ} 0 1 = cc (unnamed table (part_of s (lead_of s).range (lead_of s).word) none) in
        absurd (omega arith)

module _ (table : List Row) (line : List ℕ) (e : ℕ) where
  -- what is written of the texts from f on, n of them and one at most
  abbrev pub rest_at : ℕ → ℕ → List ℕ
  rest_at n f = told_bytes (through table line e (suc n) f)

  -- where the argument of the text at f starts, and what is written of its lead, if its word names a prefix
  abbrev pub argument_at : ℕ → ℕ
  argument_at f = (lead_of (part_of line f e)).argument

  abbrev pub lead_at : ℕ → List ℕ
  lead_at f = left_at prefix_number f (part_of line f e) (argument_at f) 0

  -- what is written of the last text, at f
  abbrev pub last_at : ℕ → List ℕ
  last_at f = left_at word_number f (part_of line f e) (e - f) 0

  pub rest_prefix : (n f : ℕ) → is_prefixed table (part_of line f e) ≡ true → rest_at n f ≡ lead_at f ++ told_bytes (through table line e n (f + argument_at f))
  unfolding tokens_of
  rest_prefix n f h = ap told_bytes (through_prefix table line e n f h) ∙ bytes_append _ _

  pub rest_last : (n f : ℕ) → e ≤ length line → is_prefixed table (part_of line f e) ≡ false → rest_at n f ≡ last_at f
  unfolding tokens_of
  rest_last n f inside h =
      let s = part_of line f e in
      ap told_bytes (through_last table line e n f h)
      ∙ ap (λ (ts : List Token). told_bytes (told_all word_number f ts)) (sym (before_all 0 (length s) (tokens_of s) (tokens_cover s)))
      ∙ ap (λ (n : ℕ). left_at word_number f s n 0) (text_length table line e f inside)

  -- the texts before the one at f are written, up to `at`, and there are readings enough for the rest
  pub record Telling (first store : List ℕ) (at f : ℕ) (lead : Lead) (again : Bool) : Type 0 where
    pub more : ℕ
    pub enough : e - f ≤ more
    pub within : f ≤ e
    pub writing : Writing first 0 (rest_at (length line) 0) store at (rest_at more f)
    pub led : lead ≡ lead_of (part_of line f e)
    pub prefixed : again ≡ is_prefixed table (part_of line f e)

module _ (table : List Row) (line : List ℕ) (e : ℕ) (inside : e ≤ length line) where
  pub telling_start : (store : List ℕ) (lead : Lead) (again : Bool) → lead ≡ lead_of (part_of line 0 e) → again ≡ is_prefixed table (part_of line 0 e) →
      Telling table line e store store 0 0 lead again
  telling_start store lead again l p =
      record { more = length line; enough = omega arith; within = omega arith; writing = writing_start _ _ _; led = l; prefixed = p }

  module _ {first store : List ℕ} {at f : ℕ} {lead : Lead} {again : Bool} (t : Telling table line e first store at f lead again) where
    pub telling_inside : f + argument_at table line e f ≤ e
    telling_inside = omega (arith, lead_inside (part_of line f e), text_length table line e f inside, t.within)

    -- its word names a prefix
    module _ (h : again ≡ true) where
      names : is_prefixed table (part_of line f e) ≡ true
      names = sym t.prefixed ∙ h

      pub telling_room : Room first 0 (rest_at table line e (length line) 0) → Room store at (lead_at table line e f)
      telling_room r = writing_room _ _ r (rest_prefix table line e t.more f names) t.writing

      pub telling_past : 0 < argument_at table line e f
      telling_past = prefixed_past table (part_of line f e) names

      pub telling_on : {store₁ : List ℕ} {m : ℕ} (lead₁ : Lead) (again₁ : Bool) → Put store store₁ at m (lead_at table line e f) →
          lead₁ ≡ lead_of (part_of line (f + argument_at table line e f) e) → again₁ ≡ is_prefixed table (part_of line (f + argument_at table line e f) e) →
          Telling table line e first store₁ m (f + argument_at table line e f) lead₁ again₁
      telling_on lead₁ again₁ p l q =
          let one : suc (t.more - 1) ≡ t.more = omega (arith, t.enough, telling_inside, telling_past) in
          record {
            more = t.more - 1;
            enough = omega (arith, t.enough, telling_past);
            within = telling_inside;
            writing = rw one (writing_put _ p (rest_prefix table line e t.more f names) t.writing);
            led = l;
            prefixed = q;
          }

    -- it names none
    module _ (h : again ≡ false) where
      last_is : rest_at table line e t.more f ≡ last_at table line e f ++ []
      last_is = rest_last table line e t.more f inside (sym t.prefixed ∙ h) ∙ sym (append-nil _)

      pub telling_last : Room first 0 (rest_at table line e (length line) 0) → Room store at (last_at table line e f)
      telling_last r = writing_room _ _ r last_is t.writing

      pub telling_end : {store₁ : List ℕ} {m : ℕ} → Put store store₁ at m (last_at table line e f) → Put first store₁ 0 m (rest_at table line e (length line) 0)
      telling_end p = writing_end refl (writing_put [] p last_is t.writing)

-- a line ----------------------------------------------------------------------------------------------------------------------------------------

module _ (table : List Row) (line : List ℕ) where
  pub texts_inside : texts_end table line ≤ length line
  unfolding texts_end
  texts_inside = go (is_prefixed table line)
    where
      go : (b : Bool) → cond b (run_at is_text line (lead_of line).argument) (length line) ≤ length line
      go true = run_at_within is_text line (lead_of line).argument (lead_inside line)
      go false = omega arith

  -- the line has no more tokens than bytes
  pub line_count_lem : length (line_tokens table line) ≤ length line
  unfolding line_tokens
  line_count_lem =
      let e = texts_end table line in
      let ts = tokens_at line e in
      let c = tokens_cover_at line e texts_inside in
      rw (length-append (through table line e (suc (length line)) 0) (told_all word_number 0 ts), told_length word_number 0 ts)
      (omega (arith, through_count table line e (suc (length line)) 0 (omega arith) texts_inside, ap length (before_all e (length line) ts c), before_count e (length line) (length line) ts c, texts_inside))

  -- what is written: of the texts, and then of the line behind them
  pub line_bytes_lem : told_bytes (line_tokens table line) ≡ rest_at table line (texts_end table line) (length line) 0 ++ left_at word_number 0 line (length line) (texts_end table line)
  unfolding line_tokens
  line_bytes_lem =
      let e = texts_end table line in
      bytes_append _ _
      ∙ ap (λ (ts : List Token). rest_at table line e (length line) 0 ++ told_bytes (told_all word_number 0 ts)) (sym (before_all e (length line) (tokens_at line e) (tokens_cover_at line e texts_inside)))

-- the call ----------------------------------------------------------------------------------------------------------------------------------------

module _ (b l store : List ℕ) where
  -- what a call answers and leaves
  abbrev pub Ends : ℕ → ℕ → List ℕ → Type 0
  Ends n count after = (n ≡ tokens_no b l (length store)) × (count ≡ tokens_count b l (length store)) × (after ≡ tokens_store b l store)

  pub tokens_99 : sound b ≡ false → Ends (refusal_no Refusal.NotASession) 0 store
  unfolding tokens_no tokens_count tokens_store
  tokens_99 h = (rw h, rw h, rw h)

  module _ (h : sound b ≡ true) where
    pub tokens_long : leb (length l) line_limit ≡ false → Ends (refusal_no Refusal.LineTooLong) 0 store
    unfolding tokens_no tokens_count tokens_store
    tokens_long k = (rw (h, k), rw (h, k), rw (h, k))

    pub tokens_short : leb (length l) line_limit ≡ true → leb (token_size * length l) (length store) ≡ false → Ends (refusal_no Refusal.StoreTooShort) 0 store
    unfolding tokens_no tokens_count tokens_store
    tokens_short k r = (rw (h, k, r), rw (h, k, r), rw (h, k, r))

    pub tokens_good : leb (length l) line_limit ≡ true → leb (token_size * length l) (length store) ≡ true → Ends 0 (length (tokens_on b l)) (at_front (told_bytes (tokens_on b l)) store)
    unfolding tokens_no tokens_count tokens_store
    tokens_good k r = (rw (h, k, r), rw (h, k, r), rw (h, k, r))

-- the store that is asked for has room for the tokens
pub line_room_lem : (table : List Row) (line store : List ℕ) → token_size * length line ≤ length store → Room store 0 (told_bytes (line_tokens table line))
line_room_lem table line store h = record { fits = omega (arith, bytes_length (line_tokens table line), line_count_lem table line) }
