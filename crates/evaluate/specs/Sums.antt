-- Lists whose products with a row add up in 64 bits.
use Rattle.std.specs.Prelude.{ℕ, ◌≤◌, List, length, ℤ, unsigned_abs}
use Rattle.duality.specs.Lists.{places}

pub record Summable (z : List ℤ) : Type 0 where
  pub few : length z ≤ 32
  pub near : (k : ℕ) → unsigned_abs (places z k) ≤ 1073741824
