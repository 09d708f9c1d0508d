-- What holds of every table, in the words of its four questions.
use Rattle.std.specs.Prelude.{◌≡◌, ℕ, ◌<◌, ◌≤◌, true, List, length, ℤ, is_some, Some, None, Option, unsigned_abs}
use Rattle.duality.specs.Sums.{row}
use Rattle.duality.specs.Lists.{places}
use Rattle.table.specs.Grid.{Grid, height_of, width_of, place_of, product_of, matrix_of}

-- an answer that is given lies from -m to m
abbrev pub Bounded : ℕ → Option ℤ → Type 0
Bounded m None = Unit {0}
Bounded m (Some z) = unsigned_abs z ≤ m

-- an answer is given exactly where P holds of it
abbrev pub Exactly : (ℤ → Type 0) → Option ℤ → Type 0
Exactly P r = (z : ℤ) → (r ≡ Some z → P z) × (P z → r ≡ Some z)

-- row i can be multiplied with the list, and s is the sum of number times list number along it
pub record Multiplies (g : Grid) (i : ℕ) (xs : List ℤ) (s : ℤ) : Type 0 where
  pub inside : i < height_of g
  pub long : length xs ≡ width_of g
  pub near : (j : ℕ) → j < width_of g → unsigned_abs (places xs j) ≤ 1073741824
  pub present : (j : ℕ) → j < width_of g → is_some (place_of g i j) ≡ true
  pub total : s ≡ row (width_of g) (matrix_of g) (places xs) i

-- two grids give the same answer to every question
pub record Alike (g h : Grid) : Type 0 where
  pub high : height_of g ≡ height_of h
  pub wide : width_of g ≡ width_of h
  pub places : (i j : ℕ) → place_of g i j ≡ place_of h i j
  pub products : (i : ℕ) (xs : List ℤ) → product_of g i xs ≡ product_of h i xs
