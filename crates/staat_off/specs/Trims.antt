-- Digits without the zeros behind them.
use Rattle.std.specs.Prelude.{◌≡◌, ◌≢◌, ◌+◌, ◌*◌, ◌^◌, ◌<◌, ◌%◌, ℕ, min}
use Rattle.staat_vec.specs.declared.vector.TheConstants.{POINT}

-- what is kept of a value: what stands before its last zeros, where that is at most POINT, and how many zeros there
-- are
pub record Trims (mantissa zeros value : ℕ) : Type 0 where
  pub front : ℕ
  pub split : value ≡ front * 10 ^ zeros
  pub kept : mantissa ≡ min front (POINT + 1)
  pub last : 0 < front → front % 10 ≢ 0
