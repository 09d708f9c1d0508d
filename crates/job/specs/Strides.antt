-- A table read at equal strides: a row or a column of it.
use Rattle.std.specs.Prelude.{ℕ, ◌+◌, ◌*◌, ◌<◌, ◌≤◌, List, length, ℤ, unsigned_abs}
use Rattle.duality.specs.Lists.{places}
use Rattle.duality.specs.Sums.{Vector}

abbrev pub strided : List ℤ → ℕ → ℕ → Vector
strided xs start stride k = places xs (start + k * stride)

-- what a sum over a stride needs: places inside the table, and numbers whose products add up in 64 bits
pub record Reads (xs : List ℤ) (start stride : ℕ) (z : List ℤ) : Type 0 where
  pub few : length z ≤ 16
  pub inside : (k : ℕ) → k < length z → start + k * stride < length xs
  pub xs_small : (k : ℕ) → unsigned_abs (places xs k) ≤ 1048576
  pub z_small : (k : ℕ) → unsigned_abs (places z k) ≤ 1073741824
