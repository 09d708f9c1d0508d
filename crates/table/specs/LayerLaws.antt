-- What holds of a flipped table and of a sum of two, in terms of the tables below.
use Rattle.std.specs.Prelude.{◌≡◌, ℕ, ◌<◌, ◌≤◌, min, true, List, length, ℤ, ◌+ℤ◌, ◌*ℤ◌, is_some, unsigned_abs}
use Rattle.duality.specs.Sums.{∑}
use Rattle.duality.specs.Lists.{places}
use Rattle.table.specs.Grid.{Grid, height_of, width_of, limited, place_of, product_of, matrix_of}
use Rattle.table.specs.Laws.{Exactly, Multiplies}
use Rattle.table.specs.Layers.{added}

-- column j can be multiplied with the list, and s is the sum of number times list number down it
pub record MultipliesDown (g : Grid) (j : ℕ) (xs : List ℤ) (s : ℤ) : Type 0 where
  pub inside : j < width_of g
  pub long : length xs ≡ height_of g
  pub near : (i : ℕ) → i < height_of g → unsigned_abs (places xs i) ≤ 1073741824
  pub present : (i : ℕ) → i < height_of g → is_some (place_of g i j) ≡ true
  pub total : s ≡ ∑ (height_of g) (λ i. matrix_of g i j *ℤ places xs i)

-- f is g with rows and columns swapped: the product of a row of f is that of a column of g
pub record Swapped (g f : Grid) : Type 0 where
  pub high : height_of f ≡ width_of g
  pub wide : width_of f ≡ height_of g
  pub places : (i j : ℕ) → place_of f i j ≡ place_of g j i
  pub products : (j : ℕ) (xs : List ℤ) → Exactly (MultipliesDown g j xs) (product_of f j xs)

-- s is g and h added up as far as both reach: where a list can be multiplied with a row of all three, the products add up too
pub record AddedUp (g h s : Grid) : Type 0 where
  pub high : height_of s ≡ min (height_of g) (height_of h)
  pub wide : width_of s ≡ min (width_of g) (width_of h)
  pub places : (i j : ℕ) → place_of s i j ≡ limited (added (place_of g i j) (place_of h i j))
  pub products : (i : ℕ) (xs : List ℤ) (a b c : ℤ) → Multiplies g i xs a → Multiplies h i xs b → Multiplies s i xs c → c ≡ a +ℤ b
