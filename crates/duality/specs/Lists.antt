-- How lists of numbers, as code holds them, stand for vectors and matrices.
use Rattle.std.specs.Prelude.{ℕ, ◌+◌, ◌*◌, List, ℤ, pos, slice_index_or}
use Rattle.duality.specs.Sums.{Vector, Matrix}

-- the number at each place of a list, and 0 past its end
abbrev pub places : List ℤ → Vector
places xs k = slice_index_or xs k (pos 0)

-- rows of n numbers, one after the other in a list
abbrev pub by_rows : ℕ → List ℤ → Matrix
by_rows n xs i j = slice_index_or xs (i * n + j) (pos 0)
