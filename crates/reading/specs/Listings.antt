-- Numbers in a list as a table.
use Rattle.std.specs.Prelude.{◌≡◌, ℕ, ◌<◌, List, ℤ, pos, Some}
use Rattle.duality.specs.Lists.{by_rows}
use Rattle.duality.specs.Problem.{Problem}
use Rattle.duality.specs.Sums.{Matrix}
use Rattle.table.specs.Grid.{Grid, height_of, width_of, place_of}
use Rattle.reading.specs.declared.listing.Listing.{Listing}

-- so many rows of so many numbers, one after the other
abbrev pub listing_grid : ℕ → ℕ → List ℤ → Grid
listing_grid height width xs = record { rows = pos height; columns = pos width; cell = λ i j. Some (by_rows width xs i j) }

abbrev pub grid_of : Listing → Grid
grid_of t = listing_grid t.height t.width t.numbers.now

-- the grid has n rows and m columns, and the matrix's number at each place
pub record Shows (n m : ℕ) (M : Matrix) (g : Grid) : Type 0 where
  pub high : height_of g ≡ n
  pub wide : width_of g ≡ m
  pub numbers : (i j : ℕ) → i < n → j < m → place_of g i j ≡ Some (M i j)

-- Law: a table is the problem's matrix G, or A.
abbrev pub ShowsG : Problem → Grid → Type 0
ShowsG P g = Shows P.ropes P.ropes P.G g

abbrev pub ShowsA : Problem → Grid → Type 0
ShowsA P a = Shows P.rows P.ropes P.A a
