-- Newton's step for an inverse modulo W, and what n of them make. Assumes nothing.
use Rattle.std.specs.Prelude.{ℕ, zero, suc, ◌+◌, ◌-◌, ◌*◌, ◌%◌}

-- x * (2 - s * x), modulo W
abbrev pub step : ℕ → ℕ → ℕ → ℕ
step W s x = (x * ((2 + (W - (s * x) % W)) % W)) % W

-- n steps from 1: right in 2 ^ n digits
unfoldable pub lifts : ℕ → ℕ → ℕ → ℕ
lifts W s zero = 1
lifts W s (suc n) = step W s (lifts W s n)
