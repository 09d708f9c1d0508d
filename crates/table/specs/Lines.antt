-- A single row of numbers as a table.
use Rattle.std.specs.Prelude.{List, length, ℤ, pos, Some}
use Rattle.duality.specs.Lists.{places}
use Rattle.table.specs.Grid.{Grid}

abbrev pub line_grid : List ℤ → Grid
line_grid ns = record { rows = pos 1; columns = pos (length ns); cell = λ i j. Some (places ns j) }
