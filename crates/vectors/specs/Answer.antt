-- An answer as it is built: its bytes so far, and what they are with more behind them.
-- Assumes nothing.
use Rattle.std.specs.Prelude.{ℕ, ◌-◌, List, ◌++◌, length, take}

-- with more bytes behind them, as many as there is room for: an answer has at most 4,096
unfoldable pub with : List ℕ → List ℕ → List ℕ
with bytes more = bytes ++ take (4096 - length bytes) more
