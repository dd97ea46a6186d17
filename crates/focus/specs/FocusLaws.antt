-- What an end means depends on its text by the sum of its offsets alone, and on its place by whether it has any.
-- Assumes nothing.
use Rattle.std.specs.Prelude.{◌≡◌, Bool, List, ℕ, eqb}
use Rattle.std.proofs.Math.Path.{refl, ap}
use Rattle.ranges.specs.declared.range.RangeEndingType.{RangeEndingType}
use Rattle.focus.specs.Focus.{placed, toward, end_focus, sized, end_count}
use Rattle.focus.specs.Sum.{sum_of}

module _ (s t : List ℕ) (i m : ℕ) (h : sum_of s i ≡ sum_of t m) where
  -- the focus of two ends with one sum
  pub end_same : (e : RangeEndingType) (j n : ℕ) (wrap : Bool) → eqb i j ≡ eqb m n → end_focus s e i j wrap ≡ end_focus t e m n wrap
  unfolding end_focus
  end_same (RangeEndingType.Absolute x) j n wrap k = ap (placed x) h
  end_same RangeEndingType.Unspecified j n wrap k = ap (λ a. toward a wrap) h
  end_same RangeEndingType.Current j n wrap k = ap (λ a. toward a wrap) h
  end_same RangeEndingType.Last j n wrap k = rw k
  end_same RangeEndingType.All j n wrap k = refl
  end_same (RangeEndingType.Search d) j n wrap k = refl
  end_same RangeEndingType.SubPatSearch j n wrap k = refl
  end_same (RangeEndingType.Mark b) j n wrap k = refl

  -- their count
  pub count_same : (e : RangeEndingType) → end_count s e i ≡ end_count t e m
  unfolding end_count
  count_same (RangeEndingType.Absolute x) = ap (sized x) h
  count_same RangeEndingType.Unspecified = refl
  count_same RangeEndingType.Current = refl
  count_same RangeEndingType.Last = refl
  count_same RangeEndingType.All = refl
  count_same (RangeEndingType.Search d) = refl
  count_same RangeEndingType.SubPatSearch = refl
  count_same (RangeEndingType.Mark b) = refl
