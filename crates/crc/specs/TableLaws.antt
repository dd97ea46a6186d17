-- Laws of CRC-32 by a table. It is linear: the number of an exclusive or is the exclusive or of the numbers. So a byte is an entry of the
-- table and a shift, bytes are one number, passed at once, and a number is passed byte by byte of it. Assumes nothing.
use Rattle.std.specs.Prelude.{◌≡◌, refl, cond, List, [], ◌∷◌, ◌++◌, ℕ, zero, suc, ◌+◌, ◌-◌, ◌*◌, ◌^◌, ◌/◌, ◌%◌, ◌<◌, ◌≤◌, eqb, length, get_or, drop}
use Rattle.std.proofs.Common.{sym, ap, ap₂, ◌∙◌, add-one, arith, take-append-drop, drop-drop, get_or-drop, get_or-take}
use Rattle.std.specs.Int.Bits.{bit_xor, xor_assoc, xor_mod, xor_shr}
use Rattle.std.proofs.lemmas.Nat.{xor_comm, xor_lt}
use Rattle.scan.specs.Number.{number_of}
use Rattle.scan.specs.PartLaws.{part_length}
use Rattle.scan.specs.Scan.{part_of}
use Rattle.crc.specs.Crc.{crc_bit, crc_byte, crc_from}
use Rattle.crc.specs.Table.{passed, entry_of}
use Rattle.crc.specs.XorLaws.{by_digit, xor_left, xor_twice, xor_above, xor_parts}

-- one bit, by any polynomial -----------------------------------------------------------------------------------------------

-- the bit x passed, with the bits y behind it
pick : ℕ → ℕ → ℕ → ℕ
pick p x y = cond (eqb x 1) (bit_xor p y) y

-- it is linear
pick_xor : (p x y a b : ℕ) → x < 2 → y < 2 → pick p (bit_xor x y) (bit_xor a b) ≡ bit_xor (pick p x a) (pick p y b)
unfolding pick
pick_xor p x y a b h k =
    by_digit (λ x. pick p (bit_xor x y) (bit_xor a b) ≡ bit_xor (pick p x a) (pick p y b))
    (by_digit (λ y. pick p y (bit_xor a b) ≡ bit_xor a (pick p y b)) refl (xor_left p a b) y k)
    (by_digit (λ y. pick p (bit_xor 1 y) (bit_xor a b) ≡ bit_xor (bit_xor p a) (pick p y b)) (sym (xor_assoc p a b)) (sym (xor_twice p a b)) y k) x h

bit_pick : (c : ℕ) → crc_bit c ≡ pick 0xEDB88320 (c % 2) (c / 2)
unfolding crc_bit pick
bit_pick c = refl

bit_xor_lem : (a b : ℕ) → crc_bit (bit_xor a b) ≡ bit_xor (crc_bit a) (crc_bit b)
bit_xor_lem a b =
    bit_pick (bit_xor a b)
    ∙ ap₂ (pick 0xEDB88320) (xor_mod a b 1) (xor_shr a b 1)
    ∙ pick_xor 0xEDB88320 (a % 2) (b % 2) (a / 2) (b / 2) (omega arith) (omega arith)
    ∙ sym (ap₂ bit_xor (bit_pick a) (bit_pick b))

-- a bit that is 0 is dropped
bit_twice : (a : ℕ) → crc_bit (a * 2) ≡ a
unfolding crc_bit
bit_twice a = let m : a * 2 % 2 ≡ 0 = omega arith in let d : a * 2 / 2 ≡ a = omega arith in rw (m, d)

-- a number of 32 bits stays one
bit_lt : (c : ℕ) → c < 2 ^ 32 → crc_bit c < 2 ^ 32
unfolding pick
bit_lt c h =
    rw (bit_pick c)
    (by_digit (λ x. pick 0xEDB88320 x (c / 2) < 2 ^ 32) (omega arith) (xor_lt 32 0xEDB88320 (c / 2) (omega arith) (omega arith)) (c % 2) (omega arith))

-- a byte that is 0 ---------------------------------------------------------------------------------------------------------

-- eight bits passed
eight : ℕ → ℕ
eight c = crc_bit (crc_bit (crc_bit (crc_bit (crc_bit (crc_bit (crc_bit (crc_bit c)))))))

eight_xor : (a b : ℕ) → eight (bit_xor a b) ≡ bit_xor (eight a) (eight b)
unfolding eight
eight_xor a b = simp bit_xor_lem

byte_xor : (a b : ℕ) → crc_byte (bit_xor a b) 0 ≡ bit_xor (crc_byte a 0) (crc_byte b 0)
unfolding crc_byte eight
byte_xor = eight_xor

-- a byte is put to the number, and a byte that is 0 passed
byte_zero : (c b : ℕ) → crc_byte c b ≡ crc_byte (bit_xor b c) 0
unfolding crc_byte
byte_zero c b = refl

-- eight bits that are 0 are dropped
byte_shift : (a : ℕ) → crc_byte (a * 256) 0 ≡ a
unfolding crc_byte
byte_shift a = let e : a * 256 ≡ a * 2 * 2 * 2 * 2 * 2 * 2 * 2 * 2 = omega arith in rw e (simp bit_twice)

-- a byte that is 0 makes of a number what it makes of its low byte, and a shift
byte_parts : (c : ℕ) → crc_byte c 0 ≡ bit_xor (crc_byte (c % 256) 0) (c / 256)
byte_parts c = ap (λ x. crc_byte x 0) (xor_parts c) ∙ byte_xor (c % 256) (c / 256 * 256) ∙ ap (bit_xor (crc_byte (c % 256) 0)) (byte_shift (c / 256))

-- so a byte is an entry of the table and a shift
pub byte_entry : (c b : ℕ) → crc_byte c b ≡ bit_xor (passed 1 (bit_xor b c % 256)) (bit_xor b c / 256)
unfolding passed
byte_entry c b = byte_zero c b ∙ byte_parts (bit_xor b c)

-- a byte that is 0 leaves a number of 32 bits one
pub byte_lt : (c : ℕ) → c < 2 ^ 32 → crc_byte c 0 < 2 ^ 32
unfolding crc_byte
byte_lt c h = bit_lt _ (bit_lt _ (bit_lt _ (bit_lt _ (bit_lt _ (bit_lt _ (bit_lt _ (bit_lt c h)))))))

-- bytes that are 0 ---------------------------------------------------------------------------------------------------------

passed_xor : (k a b : ℕ) → passed k (bit_xor a b) ≡ bit_xor (passed k a) (passed k b)
unfolding passed
passed_xor zero a b = refl
passed_xor (suc k) a b = ap (passed k) (byte_xor a b) ∙ passed_xor k (crc_byte a 0) (crc_byte b 0)

passed_shift : (k a : ℕ) → passed (suc k) (a * 256) ≡ passed k a
unfolding passed
passed_shift k a = ap (passed k) (byte_shift a)

-- what k + 1 bytes that are 0 make of the low byte of a number: an entry of the table
abbrev low : ℕ → ℕ → ℕ
low k x = passed (k + 1) (x % 256)

-- what they make of a number, by its low byte and the others
passed_parts : (k x : ℕ) → passed (suc k) x ≡ bit_xor (passed (suc k) (x % 256)) (passed k (x / 256))
passed_parts k x =
    ap (passed (suc k)) (xor_parts x)
    ∙ passed_xor (suc k) (x % 256) (x / 256 * 256)
    ∙ ap (bit_xor (passed (suc k) (x % 256))) (passed_shift k (x / 256))

-- the same of k + j + 1 bytes
passed_low : (k j x : ℕ) → passed (k + (j + 1)) x ≡ bit_xor (low (k + j) x) (passed (k + j) (x / 256))
passed_low k j x = let e : k + (j + 1) ≡ k + j + 1 = omega arith in rw (e, add-one (k + j)) (passed_parts (k + j) x)

-- what k + 8 bytes that are 0 make of a number of 64 bits, by its bytes
pub passed_eight : (k x : ℕ) → x < 2 ^ 64 →
    passed (k + 8) x
    ≡ bit_xor
    (bit_xor (bit_xor (low (k + 7) x) (low (k + 6) (x / 256))) (bit_xor (low (k + 5) (x / 256 / 256)) (low (k + 4) (x / 256 / 256 / 256))))
    (bit_xor
    (bit_xor (low (k + 3) (x / 256 / 256 / 256 / 256)) (low (k + 2) (x / 256 / 256 / 256 / 256 / 256)))
    (bit_xor (low (k + 1) (x / 256 / 256 / 256 / 256 / 256 / 256)) (low k (x / 256 / 256 / 256 / 256 / 256 / 256 / 256))))
passed_eight k x h =
    let last : x / 256 / 256 / 256 / 256 / 256 / 256 / 256 % 256 ≡ x / 256 / 256 / 256 / 256 / 256 / 256 / 256 = omega arith in
    simp xor_assoc (rw (last, passed_low k 7 x, passed_low k 6, passed_low k 5, passed_low k 4, passed_low k 3, passed_low k 2, passed_low k 1))

-- twice eight
passed_twice : (c : ℕ) → passed 8 (passed 8 c) ≡ passed 16 c
unfolding passed
passed_twice c = refl

-- one more, behind the others
passed_last : (k c : ℕ) → passed (suc k) c ≡ crc_byte (passed k c) 0
unfolding passed
passed_last zero c = refl
passed_last (suc k) c = passed_last k (crc_byte c 0)

-- bytes as one number, passed at once --------------------------------------------------------------------------------------

-- a text in two parts
from_append : (c : ℕ) (xs ys : List ℕ) → crc_from c (xs ++ ys) ≡ crc_from (crc_from c xs) ys
unfolding crc_from
from_append c [] ys = refl
from_append c (b ∷ bs) ys = from_append (crc_byte c b) bs ys

-- a text is passed as the number that it is
from_number : (c : ℕ) (xs : List ℕ) → ((i : ℕ) → i < length xs → get_or xs i 0 < 256) → crc_from c xs ≡ passed (length xs) (bit_xor (number_of xs) c)
unfolding crc_from number_of passed
from_number c [] h = refl
from_number c (b ∷ bs) h =
    from_number (crc_byte c b) bs (λ i l. h (suc i) (omega arith))
    ∙ ap (passed (length bs))
    (ap₂ bit_xor (sym (byte_shift (number_of bs))) (byte_zero c b)
    ∙ sym (byte_xor (number_of bs * 256) (bit_xor b c))
    ∙ ap (λ x. crc_byte x 0) (sym (xor_assoc (number_of bs * 256) b c) ∙ ap (λ x. bit_xor x c) (xor_above (number_of bs) b (h 0 (omega arith)))))

-- eight bytes of a text
from_eight : (d : ℕ) (s : List ℕ) (i : ℕ) → i + 8 ≤ length s → ((j : ℕ) → get_or s j 0 < 256) →
    crc_from d (drop i s) ≡ crc_from (passed 8 (bit_xor (number_of (part_of s i (i + 8))) d)) (drop (i + 8) s)
from_eight d s i h b =
    let p = part_of s i (i + 8) in
    let n : i + 8 - i ≡ 8 = omega arith in
    let l : length p ≡ 8 = part_length s i (i + 8) h ∙ n in
    let within : (j : ℕ) → j < length p → get_or p j 0 < 256 = λ j k. rw (get_or-take (i + 8 - i) (drop i s) j 0 (omega arith), get_or-drop i s j 0) (b (i + j)) in
    ap (crc_from d) (sym (take-append-drop (i + 8 - i) (drop i s)) ∙ ap (λ r. p ++ r) (drop-drop (i + 8 - i) i s))
    ∙ from_append d p (drop (i + (i + 8 - i)) s)
    ∙ ap₂ crc_from (from_number d p within ∙ ap (λ k. passed k (bit_xor (number_of p) d)) l) (ap (λ k. drop (i + k) s) n)

-- sixteen: the first eight with eight more behind them, and the others
pub from_sixteen : (d : ℕ) (s : List ℕ) (i : ℕ) → i + 16 ≤ length s → ((j : ℕ) → get_or s j 0 < 256) →
    crc_from d (drop i s)
    ≡ crc_from
    (bit_xor (passed 16 (bit_xor (number_of (part_of s i (i + 8))) d)) (passed 8 (number_of (part_of s (i + 8) (i + 8 + 8)))))
    (drop (i + 16) s)
from_sixteen d s i h b =
    let x = bit_xor (number_of (part_of s i (i + 8))) d in
    let y = number_of (part_of s (i + 8) (i + 8 + 8)) in
    let e : i + 8 + 8 ≡ i + 16 = omega arith in
    from_eight d s i (omega arith) b
    ∙ from_eight (passed 8 x) s (i + 8) (omega arith) b
    ∙ ap₂ crc_from (passed_xor 8 y (passed 8 x) ∙ xor_comm (passed 8 y) (passed 8 (passed 8 x)) ∙ ap (λ z. bit_xor z (passed 8 y)) (passed_twice x))
    (ap (λ j. drop j s) e)

-- the entries of the table ---------------------------------------------------------------------------------------------------

-- the first 256: one byte
pub entry_low : (j : ℕ) → j < 256 → entry_of j ≡ crc_byte j 0
unfolding entry_of passed
entry_low j h = let d : j / 256 ≡ 0 = omega arith in let m : j % 256 ≡ j = omega arith in rw (d, m)

-- one byte more than the entry 256 before
entry_next : (j : ℕ) → 256 ≤ j → entry_of j ≡ crc_byte (entry_of (j - 256)) 0
unfolding entry_of
entry_next j h =
    let d : j / 256 ≡ (j - 256) / 256 + 1 = omega arith in
    let m : j % 256 ≡ (j - 256) % 256 = omega arith in
    rw (d, m, add-one ((j - 256) / 256 + 1)) (passed_last ((j - 256) / 256 + 1) ((j - 256) % 256))

-- and so by the first 256
pub entry_on : (j : ℕ) → 256 ≤ j → entry_of j ≡ bit_xor (entry_of (entry_of (j - 256) % 256)) (entry_of (j - 256) / 256)
entry_on j h =
    let v = entry_of (j - 256) in
    entry_next j h ∙ byte_parts v ∙ ap (λ x. bit_xor x (v / 256)) (sym (entry_low (v % 256) (omega arith)))

-- those of k + 1 bytes
pub entry_at : (k x : ℕ) → entry_of (k * 256 + x % 256) ≡ passed (k + 1) (x % 256)
unfolding entry_of
entry_at k x =
    let d : (k * 256 + x % 256) / 256 ≡ k = omega arith in
    let m : (k * 256 + x % 256) % 256 ≡ x % 256 = omega arith in
    rw (d, m)
