-- What a table of whole numbers means: its sizes as they were given, and at each place a number or a blank.
-- The four questions cut the sizes and blank out the numbers beyond the limit, so that every grid is a lawful table.
use Rattle.std.specs.Prelude.{ℕ, min, Bool, cond, ◌&&◌, List, length, ℤ, pos, negsuc, is_some, Some, None, Option, ◌==◌, nat_lt}
use Rattle.std.specs.Option.{unwrap_or}
use Rattle.duality.specs.Lists.{places}
use Rattle.duality.specs.Sums.{Matrix, row}
use Rattle.duality.specs.Tests.{all, within, all_within}

pub record Grid : Type 0 where
  pub rows : ℤ
  pub columns : ℤ
  pub cell : ℕ → ℕ → Option ℤ

-- a size below 0 is 0, and one above 64 is 64
abbrev pub cut : ℤ → ℕ
cut (pos n) = min n 64
cut (negsuc n) = 0

abbrev pub height_of : Grid → ℕ
height_of g = cut g.rows

abbrev pub width_of : Grid → ℕ
width_of g = cut g.columns

-- a number beyond the limit of a place is a blank
abbrev pub limited : Option ℤ → Option ℤ
limited None = None
limited (Some z) = cond (within 1048576 z) (Some z) None

abbrev pub place_of : Grid → ℕ → ℕ → Option ℤ
place_of g i j = cond (nat_lt i (height_of g) && nat_lt j (width_of g)) (limited (g.cell i j)) None

-- a grid as a matrix, with 0 for a blank
abbrev pub matrix_of : Grid → Matrix
matrix_of g i j = unwrap_or (place_of g i j) (pos 0)

-- row i holds no blank
abbrev pub filled : Grid → ℕ → Bool
filled g i = all (λ j. is_some (place_of g i j)) (width_of g)

-- whether row i can be multiplied with the list
abbrev pub multipliable : Grid → ℕ → List ℤ → Bool
multipliable g i xs = nat_lt i (height_of g) && length xs == width_of g && all_within 1073741824 xs && filled g i

-- the sum of number times list number along row i
abbrev pub product_of : Grid → ℕ → List ℤ → Option ℤ
product_of g i xs = cond (multipliable g i xs) (Some (row (width_of g) (matrix_of g) (places xs) i)) None
