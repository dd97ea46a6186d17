-- Laws of the place in a line that is not UTF-8.
-- Assumes nothing.
use Rattle.std.specs.Prelude.{◌≡◌, ℕ, ◌-◌, ◌<◌, true, false, List, length, refl}
use Rattle.std.proofs.Common.{sym, ◌∙◌, ap, arith}
use Rattle.std.proofs.Math.Decide.{dec_lt}
use Rattle.scan.specs.Scan.{part_of}
use Rattle.scan.specs.PartLaws.{part_rest}
use Rattle.utf8.specs.Utf8.{is_utf8, utf8_at, utf8_from}
use Rattle.spots.specs.Utf8.{BadBehind, Utf8UpTo}

module _ (line : List ℕ) where
  -- one byte less, where these are not UTF-8
  pub bad_less : (n : ℕ) → is_utf8 (part_of line 0 n) ≡ false → BadBehind line n → BadBehind line (n - 1)
  bad_less n e b m h k = go (dec_lt n m)
    where
      go : Dec (n < m) → is_utf8 (part_of line 0 m) ≡ false
      go (yes l) = b m l k
      go (no l) = let q : m ≡ n = omega arith in rw q e

  -- no bytes are UTF-8
  pub none_good : BadBehind line 0 → Utf8UpTo line 0
  unfolding is_utf8 utf8_at utf8_from
  none_good b = record { inside = omega arith; good = refl; bad = b }

  -- a line that is not UTF-8 is so before its end
  pub bad_before : (n : ℕ) → Utf8UpTo line n → is_utf8 line ≡ false → n < length line
  bad_before n u e = go (dec_lt n (length line))
    where
      go : Dec (n < length line) → n < length line
      go (yes l) = l
      go (no l) =
          let q : is_utf8 line ≡ true = ap is_utf8 (sym (part_rest line 0 n (omega arith))) ∙ u.good in
          let f : true ≡ false = sym q ∙ e in
          let z : ◌≡◌ {A = ℕ} 0 1 = cc in
          absurd (omega arith)
