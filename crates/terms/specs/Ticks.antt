-- How far a number lies outside two limits.
use Rattle.std.specs.Prelude.{◌^◌, ◌≤◌, ℤ, pos, ◌-ℤ◌, unsigned_abs}
use Rattle.std.specs.Int.{int_max}

-- how many ticks s lies below low or above high
unfoldable pub excess : ℤ → ℤ → ℤ → ℤ
excess low high s = int_max (pos 0) (int_max (low -ℤ s) (s -ℤ high))

-- numbers so small that their differences fit 64 bits: limits of rows, and sums of rows
pub record Near (low high s : ℤ) : Type 0 where
  pub low_near : unsigned_abs low ≤ 536870912
  pub high_near : unsigned_abs high ≤ 536870912
  pub sum_near : unsigned_abs s ≤ 2 ^ 54
