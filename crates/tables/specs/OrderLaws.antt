-- The order of a table's words: of one and the next, of those of one length, and of all lengths.
-- Assumes nothing.
use Rattle.std.specs.Prelude.{◌≡◌, ℕ, zero, suc, ◌+◌, ◌-◌, ◌*◌, ◌<◌, ◌≤◌, Bool, true, false, cond, ◌&&◌, List, [], ◌∷◌, ◌++◌, length, take, drop, ◌≢◌, nat_le, nat_lt, Some, None}
use Rattle.std.proofs.Math.Path.{refl, sym, ap}
use Rattle.std.proofs.Common.{◌∙◌, zero-mul, arith, length-append, length-drop, drop-drop, length-take-le, lt-ltb, le-ltb, leb-true, leb-false}
use Rattle.std.proofs.Math.Bool.{and_assoc}
use Rattle.std.proofs.Math.Nat.{suc-mul}
use Rattle.limits.specs.Limits.{word_limit}
use Rattle.scan.specs.Number.{number_of}
use Rattle.scan.specs.Scan.{byte_at, part_of}
use Rattle.scan.specs.PartLaws.{part_length}
use Rattle.fields.specs.Field.{Bytes}
use Rattle.tables.specs.Table.{is_after, repeated, lengths_from, sum, words_at}
use Rattle.tables.specs.PartsLaws.{empty, repeated_length, sum_append, sum_repeated}
use Rattle.tables.specs.FrameLaws.{Framed, lengths_step, lengths_end, lengths_count, lengths_sum}
use Rattle.tables.specs.Tail.{hidden_of, tail_of, key_of}
use Rattle.tables.specs.TailLaws.{bytes_part, part_left, part_right, number_same, after_is, high_same, tail_key, key_less, key_more, key_same, eight_same, eight_tells}
use Rattle.tables.specs.Walk.{lengths_at, in_order}

-- a word of m bytes that ends at e, and the next ---------------------------------------------------------------------------------------------------

-- eight bytes of a part
eight_at : (s : List ℕ) (a e k p : ℕ) → a + k ≡ p → p + 8 ≤ e → e ≤ length s → take 8 (drop k (part_of s a e)) ≡ part_of s p (p + 8)
eight_at s a e k p q h l =
    ap (take 8) (part_right s a e k l (omega arith) ∙ ap (λ (n : ℕ). part_of s n e) q) ∙ part_left s p e 8 (omega arith)

-- lists that are alike from k on are alike later
alike_later : (k n : ℕ) (v w : List ℕ) → k ≤ n → drop k v ≡ drop k w → drop n v ≡ drop n w
alike_later k n v w h e =
    let q : k + (n - k) ≡ n = omega arith in
    ap (λ (i : ℕ). drop i v) (sym q) ∙ sym (drop-drop (n - k) k v) ∙ ap (drop (n - k)) e ∙ drop-drop (n - k) k w ∙ ap (λ (i : ℕ). drop i w) q

module _ (b : List ℕ) (e m : ℕ) (bytes : Bytes b) (inside : e + m ≤ length b) (room : m ≤ e) (eight : 8 ≤ e) where
  this_length : length (part_of b (e - m) e) ≡ m
  this_length = omega (arith, part_length b (e - m) e (omega arith))

  next_length : length (part_of b e (e + m)) ≡ m
  next_length = omega (arith, part_length b e (e + m) inside)

  this_key : tail_of b e (hidden_of m) ≡ key_of (part_of b (e - m) e)
  this_key = tail_key b e m bytes (omega arith) room eight

  next_key : tail_of b (e + m) (hidden_of m) ≡ key_of (part_of b e (e + m))
  next_key =
      let q : e + m - m ≡ e = omega arith in
      tail_key b (e + m) m bytes inside (omega arith) (omega arith) ∙ ap (λ (n : ℕ). key_of (part_of b n (e + m))) q

  pub tails_less : tail_of b e (hidden_of m) < tail_of b (e + m) (hidden_of m) → is_after (part_of b (e - m) e) (part_of b e (e + m)) ≡ true
  tails_less h = key_less _ _ m this_length next_length (bytes_part (e - m) e b bytes) (rw (this_key, next_key) at h)

  pub tails_more : tail_of b (e + m) (hidden_of m) < tail_of b e (hidden_of m) → is_after (part_of b (e - m) e) (part_of b e (e + m)) ≡ false
  tails_more h = key_more _ _ m this_length next_length (bytes_part e (e + m) b bytes) (rw (this_key, next_key) at h)

  tails_same : tail_of b e (hidden_of m) ≡ tail_of b (e + m) (hidden_of m) → drop (m - 8) (part_of b (e - m) e) ≡ drop (m - 8) (part_of b e (e + m))
  tails_same h = key_same _ _ m this_length next_length (bytes_part (e - m) e b bytes) (bytes_part e (e + m) b bytes) (sym this_key ∙ h ∙ next_key)

  -- words that end alike: at most eight bytes are all of a word
  pub rest_none : m ≤ 8 → tail_of b e (hidden_of m) ≡ tail_of b (e + m) (hidden_of m) → is_after (part_of b (e - m) e) (part_of b e (e + m)) ≡ false
  rest_none h s =
      let z : m - 8 ≡ 0 = omega arith in
      let q : number_of (part_of b (e - m) e) ≡ number_of (part_of b e (e + m)) = ap number_of (rw z at (tails_same s)) in
      after_is _ _ (this_length ∙ sym next_length) ∙ le-ltb (number_of (part_of b (e - m) e)) (number_of (part_of b e (e + m))) (omega arith)

  -- by the eight bytes before the last
  module _ (long : 16 < m) (alike : tail_of b e (hidden_of m) ≡ tail_of b (e + m) (hidden_of m)) where
    this_eight : take 8 (drop (m - 16) (part_of b (e - m) e)) ≡ part_of b (e - 16) (e - 16 + 8)
    this_eight = eight_at b (e - m) e (m - 16) (e - 16) (omega arith) (omega arith) (omega arith)

    next_eight : take 8 (drop (m - 16) (part_of b e (e + m))) ≡ part_of b (e + m - 16) (e + m - 16 + 8)
    next_eight = eight_at b e (e + m) (m - 16) (e + m - 16) (omega arith) (omega arith) inside

    alike_there : drop (m - 16 + 8) (part_of b (e - m) e) ≡ drop (m - 16 + 8) (part_of b e (e + m))
    alike_there = let q : m - 16 + 8 ≡ m - 8 = omega arith in rw q (tails_same alike)

    pub rest_tells : (number_of (part_of b (e - 16) (e - 16 + 8)) ≢ number_of (part_of b (e + m - 16) (e + m - 16 + 8))) →
        is_after (part_of b (e - m) e) (part_of b e (e + m)) ≡ nat_lt (number_of (part_of b (e - 16) (e - 16 + 8))) (number_of (part_of b (e + m - 16) (e + m - 16 + 8)))
    rest_tells n =
        rw (this_eight, next_eight) at
        (eight_tells _ _ m this_length next_length (m - 16) (bytes_part (e - m) e b bytes) (bytes_part e (e + m) b bytes) alike_there (rw (this_eight, next_eight) n))

    pub rest_same : m ≤ 24 → number_of (part_of b (e - 16) (e - 16 + 8)) ≡ number_of (part_of b (e + m - 16) (e + m - 16 + 8)) →
        drop 8 (part_of b (e - m) e) ≡ drop 8 (part_of b e (e + m))
    rest_same l h =
        let x : length (part_of b (e - 16) (e - 16 + 8)) ≡ length (part_of b (e + m - 16) (e + m - 16 + 8)) =
        part_length b (e - 16) (e - 16 + 8) (omega arith) ∙ omega arith ∙ sym (part_length b (e + m - 16) (e + m - 16 + 8) (omega arith)) in
        let s = number_same _ _ (bytes_part (e - 16) (e - 16 + 8) b bytes) (bytes_part (e + m - 16) (e + m - 16 + 8) b bytes) x h in
        alike_later (m - 16) 8 _ _ (omega arith) (eight_same _ _ m this_length next_length (m - 16) alike_there (this_eight ∙ s ∙ sym next_eight))

  -- by the first eight bytes
  pub rest_soon : m ≤ 16 → tail_of b e (hidden_of m) ≡ tail_of b (e + m) (hidden_of m) → drop 8 (part_of b (e - m) e) ≡ drop 8 (part_of b e (e + m))
  rest_soon h s = alike_later (m - 8) 8 _ _ (omega arith) (tails_same s)

  pub rest_first : 8 ≤ m → drop 8 (part_of b (e - m) e) ≡ drop 8 (part_of b e (e + m)) →
      is_after (part_of b (e - m) e) (part_of b e (e + m)) ≡ nat_lt (number_of (part_of b (e - m) (e - m + 8))) (number_of (part_of b e (e + 8)))
  rest_first h s =
      let x : take 8 (part_of b (e - m) e) ≡ part_of b (e - m) (e - m + 8) = part_left b (e - m) e 8 (omega arith) in
      let y : take 8 (part_of b e (e + m)) ≡ part_of b e (e + 8) = part_left b e (e + m) 8 (omega arith) in
      let l : length (part_of b (e - m) (e - m + 8)) ≡ length (part_of b e (e + 8)) =
      part_length b (e - m) (e - m + 8) (omega arith) ∙ omega arith ∙ sym (part_length b e (e + 8) (omega arith)) in
      high_same _ _ (this_length ∙ sym next_length) 8 s ∙ rw (x, y) (after_is _ _ l)

-- words of one length ------------------------------------------------------------------------------------------------------------------------------

-- a word comes after nothing
first_after : (w : List ℕ) → 0 < length w → is_after [] w ≡ true
unfolding is_after
first_after w h = rw (lt-ltb 0 (length w) h)

-- of c words of m bytes from q on those up to e ascend, and so many are left
pub record Risen (b : List ℕ) (q m c e : ℕ) : Type 0 where
  pub some : 1 ≤ m
  pub left : ℕ
  pub ends : e + left * m ≡ q + c * m
  pub room : q + m ≤ e
  pub order : in_order [] (repeated c m) (drop q b) ≡ in_order (part_of b (e - m) e) (repeated left m) (drop e b)

order_next : (b v : List ℕ) (m c e : ℕ) →
    in_order v (repeated (suc c) m) (drop e b) ≡ is_after v (part_of b e (e + m)) && in_order (part_of b e (e + m)) (repeated c m) (drop (e + m) b)
unfolding in_order repeated
order_next b v m c e = let k : e + m - e ≡ m = omega arith in rw (k, ← drop-drop m e b)

pub risen_start : (b : List ℕ) (q m c : ℕ) → 1 ≤ m → 0 < c → q + c * m ≤ length b → Risen b q m c (q + m)
risen_start b q m zero some h l = absurd (omega arith)
risen_start b q m (suc c) some h l =
    let p : q + m - m ≡ q = omega arith in
    let n : 0 < length (part_of b q (q + m)) = omega (arith, part_length b q (q + m) (omega (arith, suc-mul c m))) in
    record {
      some = some;
      left = c;
      ends = omega (arith, suc-mul c m);
      room = omega arith;
      order = rw (p, order_next b [] m c q, first_after (part_of b q (q + m)) n);
    }

module _ {b : List ℕ} {q m c e : ℕ} (r : Risen b q m c e) where
  pub risen_end : q + c * m ≤ e → in_order [] (repeated c m) (drop q b) ≡ true
  unfolding in_order repeated
  risen_end h = r.order ∙ go r.left r.ends
    where
      go : (j : ℕ) → e + j * m ≡ q + c * m → in_order (part_of b (e - m) e) (repeated j m) (drop e b) ≡ true
      go zero k = refl
      go (suc j) k = absurd (omega (arith, suc-mul j m, r.some))

  pub risen_room : e < q + c * m → e + m ≤ q + c * m
  risen_room more = go r.left r.ends
    where
      go : (j : ℕ) → e + j * m ≡ q + c * m → e + m ≤ q + c * m
      go zero k = absurd (omega arith)
      go (suc j) k = omega (arith, suc-mul j m)

  pub risen_next : e < q + c * m → is_after (part_of b (e - m) e) (part_of b e (e + m)) ≡ true → Risen b q m c (e + m)
  risen_next more h = go r.left r.ends r.order
    where
      go : (j : ℕ) → e + j * m ≡ q + c * m → in_order [] (repeated c m) (drop q b) ≡ in_order (part_of b (e - m) e) (repeated j m) (drop e b) → Risen b q m c (e + m)
      go zero k o = absurd (omega arith)
      go (suc j) k o =
          let p : e + m - m ≡ e = omega arith in
          record {
            some = r.some;
            left = j;
            ends = omega (arith, suc-mul j m);
            room = omega (arith, r.room);
            order = o ∙ rw (p, order_next b (part_of b (e - m) e) m j e, h);
          }

  pub risen_not : e < q + c * m → is_after (part_of b (e - m) e) (part_of b e (e + m)) ≡ false → in_order [] (repeated c m) (drop q b) ≡ false
  risen_not more h = r.order ∙ go r.left r.ends
    where
      go : (j : ℕ) → e + j * m ≡ q + c * m → in_order (part_of b (e - m) e) (repeated j m) (drop e b) ≡ false
      go zero k = absurd (omega arith)
      go (suc j) k = rw (order_next b (part_of b (e - m) e) m j e, h)

-- words of all lengths -----------------------------------------------------------------------------------------------------------------------------

-- a longer word comes after a shorter one
pub after_longer : (v w : List ℕ) → length v < length w → is_after v w ≡ true
unfolding is_after
after_longer v w h = rw (lt-ltb (length v) (length w) h)

-- the first of these lengths is above m, if there is one
abbrev Above : ℕ → List ℕ → Type 0
Above m [] = Unit {0}
Above m (l ∷ ls) = m < l

above_from : (m k : ℕ) (cs : List ℕ) → m < k → Above m (lengths_from k cs)
unfolding lengths_from repeated
above_from m k [] h = tt
above_from m k (zero ∷ cs) h = above_from m (suc k) cs (omega arith)
above_from m k (suc c ∷ cs) h = h

-- whatever shorter word stands before them
order_longer : (v : List ℕ) (ls ws : List ℕ) → Above (length v) ls → sum ls ≤ length ws → in_order v ls ws ≡ in_order [] ls ws
unfolding in_order sum
order_longer v [] ws a h = refl
order_longer v (l ∷ ls) ws a h =
    let n : length (take l ws) ≡ l = length-take-le l ws (omega arith) in
    rw (after_longer v (take l ws) (omega arith), after_longer [] (take l ws) (omega arith))

above_less : (k m : ℕ) (ls : List ℕ) → k ≤ m → Above m ls → Above k ls
above_less k m [] h a = tt
above_less k m (l ∷ ls) h a = omega arith

-- words of m bytes, then longer ones
order_parts : (v : List ℕ) (c m : ℕ) (ls ws : List ℕ) → length v ≤ m → Above m ls → c * m + sum ls ≤ length ws →
    in_order v (repeated c m ++ ls) ws ≡ in_order v (repeated c m) ws && in_order [] ls (drop (c * m) ws)
unfolding in_order repeated
order_parts v zero m ls ws h a k =
    let z : 0 * m ≡ 0 = zero-mul m in
    rw z (order_longer v ls ws (above_less (length v) m ls h a) (omega arith))
order_parts v (suc c) m ls ws h a k =
    let w = take m ws in
    let n : length w ≡ m = length-take-le m ws (omega (arith, suc-mul c m)) in
    let e : m + c * m ≡ suc c * m = omega (arith, suc-mul c m) in
    ap (λ t. is_after v w && t) (order_parts w c m ls (drop m ws) (omega arith) a (omega (arith, suc-mul c m, length-drop m ws)))
    ∙ ap (λ t. is_after v w && (in_order w (repeated c m) (drop m ws) && in_order [] ls t)) (drop-drop (c * m) m ws ∙ ap (λ (i : ℕ). drop i ws) e)
    ∙ sym (and_assoc (is_after v w) (in_order w (repeated c m) (drop m ws)) (in_order [] ls (drop (suc c * m) ws)))

-- the words of a table up to q ascend, and are shorter than m; so many are left
pub record Ordered (b : List ℕ) (at most q m left : ℕ) : Type 0 where
  pub frame : Framed at most b
  pub words : 0 < byte_at b at
  pub some : 1 ≤ m
  pub rest : left ≡ length (lengths_at b at m)
  pub room : words_at at most ≤ q
  pub ends : q + sum (lengths_at b at m) ≡ words_at at most + sum (lengths_at b at 1)
  pub order : in_order [] (lengths_at b at 1) (drop (words_at at most) b) ≡ in_order [] (lengths_at b at m) (drop q b)

pub ordered_start : (b : List ℕ) (at most q : ℕ) → Framed at most b → 0 < byte_at b at → q ≡ words_at at most → Ordered b at most q 1 (byte_at b at)
ordered_start b at most q f w e = record {
  frame = f;
  words = w;
  some = omega arith;
  rest = sym (lengths_count at most b f w);
  room = omega arith;
  ends = omega arith;
  order = rw e;
}

module _ {b : List ℕ} {at most q m left : ℕ} (o : Ordered b at most q m left) where
  pub ordered_end : left ≡ 0 → Some q ≡ cond (in_order [] (lengths_at b at 1) (drop (words_at at most) b)) (Some (words_at at most + sum (lengths_at b at 1))) None
  unfolding in_order sum
  ordered_end h =
      let n : lengths_at b at m ≡ [] = sym (empty (lengths_at b at m) (sym o.rest ∙ h)) in
      let z : sum (lengths_at b at m) ≡ 0 = ap sum n in
      rw (o.order, n) (ap Some (omega (arith, o.ends)))

  module _ (more : 0 < left) where
    pub ordered_short : m ≤ word_limit
    ordered_short = go (nat_le m word_limit) refl
      where
        go : (t : Bool) → nat_le m word_limit ≡ t → m ≤ word_limit
        go true t = leb-true m word_limit t
        go false t = absurd (omega (arith, o.rest, ap length (lengths_end b at m (leb-false m word_limit t))))

    -- those of m bytes, then the longer ones
    here : lengths_at b at m ≡ repeated (byte_at b (at + m)) m ++ lengths_at b at (m + 1)
    here = lengths_step b at m ordered_short (omega (arith, o.frame.size))

    here_length : left ≡ byte_at b (at + m) + length (lengths_at b at (m + 1))
    here_length =
        o.rest ∙ ap length here
        ∙ length-append (repeated (byte_at b (at + m)) m) (lengths_at b at (m + 1)) ∙ omega (arith, repeated_length (byte_at b (at + m)) m)

    here_sum : sum (lengths_at b at m) ≡ byte_at b (at + m) * m + sum (lengths_at b at (m + 1))
    here_sum = ap sum here ∙ sum_append (repeated (byte_at b (at + m)) m) (lengths_at b at (m + 1)) ∙ omega (arith, sum_repeated (byte_at b (at + m)) m)

    pub ordered_few : byte_at b (at + m) ≤ left
    ordered_few = omega (arith, here_length)

    inside : q + (byte_at b (at + m) * m + sum (lengths_at b at (m + 1))) ≤ length b
    inside = omega (arith, here_sum, o.ends, lengths_sum at most b o.frame o.words, o.frame.few, o.frame.size)

    pub ordered_fits : q + byte_at b (at + m) * m ≤ length b
    ordered_fits = omega (arith, inside)

    order_here : in_order [] (lengths_at b at 1) (drop (words_at at most) b) ≡
        in_order [] (repeated (byte_at b (at + m)) m) (drop q b) && in_order [] (lengths_at b at (m + 1)) (drop (q + byte_at b (at + m) * m) b)
    order_here =
        let c = byte_at b (at + m) in
        let ls = lengths_at b at (m + 1) in
        o.order
        ∙ ap (λ v. in_order [] v (drop q b)) here
        ∙ order_parts [] c m ls (drop q b) (omega arith) (above_from m (m + 1) _ (omega arith)) (omega (arith, length-drop q b, inside))
        ∙ ap (λ v. in_order [] (repeated c m) (drop q b) && in_order [] ls v) (drop-drop (c * m) q b)

    pub ordered_not : in_order [] (repeated (byte_at b (at + m)) m) (drop q b) ≡ false →
        None ≡ cond (in_order [] (lengths_at b at 1) (drop (words_at at most) b)) (Some (words_at at most + sum (lengths_at b at 1))) None
    ordered_not h = rw (order_here, h)

    pub ordered_next : in_order [] (repeated (byte_at b (at + m)) m) (drop q b) ≡ true → Ordered b at most (q + byte_at b (at + m) * m) (m + 1) (left - byte_at b (at + m))
    ordered_next h = record {
      frame = o.frame;
      words = o.words;
      some = omega arith;
      rest = omega (arith, here_length);
      room = omega (arith, o.room);
      ends = omega (arith, o.ends, here_sum);
      order = order_here ∙ rw h;
    }
