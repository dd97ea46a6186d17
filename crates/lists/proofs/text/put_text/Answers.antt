-- `text::put_text` meets its contract: a number and then the bytes.
-- Assumes nothing.
use mathlib.Core.Path.{◌≡◌, ◌∙◌, sym, ap}
use mathlib.Core.List.{List, ◌++◌}
use Rattle.std.specs.Prelude.{ℕ, Bool}
use Prim.Native.Nat.{◌-◌, ◌+◌}
use native.Mathlib.Omega.{arith}
use lib.ListN.{length}
use Rattle.scan.specs.Scan.{byte_at, part_of, run_at}
use Rattle.scan.specs.RunLaws.{run_at_le}
use Rattle.store.specs.Sevens.{encode, named}
use Rattle.store.specs.Splice.{Put, Room, put_then, room_first, room_next}
use Rattle.lists.specs.Text.{own, bytes_at}
use Rattle.lists.specs.TextLaws.{run_length, bytes_run_to, bytes_count, bytes_length, bytes_whole}
use Rattle.lists.proofs.text.put_text.Goals as goal

-- a run up to j is the whole text, where no backslash stands at j
whole : (q : Bool) (s : List ℕ) (i j : ℕ) → j ≡ run_at (own q) s i → (byte_at s j ≡ 0x5C → ⊥) → bytes_at q s i ≡ part_of s i j
whole q s i j e n = rw e (bytes_whole q s i (λ h. n (ap (byte_at s) e ∙ h)))

sized : (q : Bool) (s : List ℕ) (i j : ℕ) → j ≡ run_at (own q) s i → (byte_at s j ≡ 0x5C → ⊥) → j - i ≡ length (bytes_at q s i)
sized q s i j e n = rw (whole q s i j e n, e) (sym (run_length q s i))

-- a run up to j, and the n bytes of the text from j on, are as many as the whole text stands for
counted : (q : Bool) (s : List ℕ) (i j n : ℕ) → j ≡ run_at (own q) s i → n ≡ length (bytes_at q s j) → j - i + n ≡ length (bytes_at q s i)
counted q s i j n e h = rw h (sym (bytes_count q s i j e))

-- behind the number is room for both
room : (q : Bool) (s : List ℕ) (i j n to m : ℕ) (before after : List ℕ) → j ≡ run_at (own q) s i → n ≡ length (bytes_at q s j) →
    Room before to (named (bytes_at q s i)) → Put before after to m (encode (j - i + n)) → Room after m (part_of s i j ++ bytes_at q s j)
unfolding named
room q s i j n to m before after e h r p = rw (← bytes_run_to q s i j e) (room_next (rw (counted q s i j n e h) at p) r)

-- without a backslash: the bytes, and how many

pub overflow_sub-j : goal.overflow_sub-j
overflow_sub-j c = omega (arith, c.own_end-j.ensures, run_at_le (own c.args.quoted) c.args.s.now c.args.at)

pub put_number-i-requires : goal.put_number-i-requires
unfolding named
put_number-i-requires c =
    rw (sized _ _ _ _ c.own_end-j.ensures (λ n. c.if-byte_at-ne92.true (c.byte_at.ensures ∙ n))) (room_first _ _ c.requires)

pub put_bytes-requires : goal.put_bytes-requires
unfolding named
put_bytes-requires c =
    let n = λ (h : byte_at c.args.s.now c.own_end-j.result ≡ 0x5C). c.if-byte_at-ne92.true (c.byte_at.ensures ∙ h) in
    rw (c.part.ensures, ← whole _ _ _ _ c.own_end-j.ensures n)
    (room_next (rw (sized _ _ _ _ c.own_end-j.ensures n) at c.put_number-i.ensures) c.requires)

pub returns-then-byte_at-ne92 : goal.returns-then-byte_at-ne92
unfolding named
returns-then-byte_at-ne92 c =
    let n = λ (h : byte_at c.args.s.now c.own_end-j.result ≡ 0x5C). c.if-byte_at-ne92.true (c.byte_at.ensures ∙ h) in
    put_then (rw (sized _ _ _ _ c.own_end-j.ensures n) at c.put_number-i.ensures)
    (rw (c.part.ensures, ← whole _ _ _ _ c.own_end-j.ensures n) at c.put_bytes.ensures)

-- with one: the first bytes and the text behind them, and how many bytes both are

pub overflow_sub-j-2 : goal.overflow_sub-j-2
overflow_sub-j-2 c = omega (arith, c.own_end-j.ensures, run_at_le (own c.args.quoted) c.args.s.now c.args.at)

pub overflow_add-j : goal.overflow_add-j
overflow_add-j c = let a = c.args in
    omega (arith, counted _ _ a.at _ _ c.own_end-j.ensures c.text_size-n.ensures, bytes_length a.quoted a.s.now a.at)

pub put_number-i-requires-2 : goal.put_number-i-requires-2
unfolding named
put_number-i-requires-2 c = rw (counted _ _ c.args.at _ _ c.own_end-j.ensures c.text_size-n.ensures) (room_first _ _ c.requires)

pub put_bytes-k-requires : goal.put_bytes-k-requires
put_bytes-k-requires c = rw c.part-2.ensures
    (room_first _ _ (room _ _ _ _ _ _ _ _ _ c.own_end-j.ensures c.text_size-n.ensures c.requires c.put_number-i-2.ensures))

pub copy_text-requires : goal.copy_text-requires
copy_text-requires c = (room_next (rw c.part-2.ensures at c.put_bytes-k.ensures)
    (room _ _ _ _ _ _ _ _ _ c.own_end-j.ensures c.text_size-n.ensures c.requires c.put_number-i-2.ensures))

pub returns : goal.returns
unfolding named
returns c = put_then (rw (counted _ _ c.args.at _ _ c.own_end-j.ensures c.text_size-n.ensures) at c.put_number-i-2.ensures)
    (rw (bytes_run_to _ _ _ _ c.own_end-j.ensures) (put_then (rw c.part-2.ensures at c.put_bytes-k.ensures) c.copy_text.ensures))
