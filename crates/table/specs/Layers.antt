-- What the layers over other tables mean.
use Rattle.std.specs.Prelude.{min, ℤ, pos, ◌+ℤ◌, Some, None, Option}
use Rattle.table.specs.Grid.{Grid, height_of, width_of, place_of}

-- rows and columns swapped
abbrev pub flipped : Grid → Grid
flipped g = record { rows = g.columns; columns = g.rows; cell = λ i j. g.cell j i }

-- the sum of two numbers, blank where one of them is
abbrev pub added : Option ℤ → Option ℤ → Option ℤ
added None y = None
added (Some x) None = None
added (Some x) (Some y) = Some (x +ℤ y)

-- as high and as wide as both are, with the sum of the two at each place
abbrev pub summed : Grid → Grid → Grid
summed g h =
    record {
      rows = pos (min (height_of g) (height_of h));
      columns = pos (min (width_of g) (width_of h));
      cell = λ i j. added (place_of g i j) (place_of h i j);
    }
