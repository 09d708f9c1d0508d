-- What holds of a table by records, in terms of the list: the first record for a place counts, and a place without one is 0.
use Rattle.std.specs.Prelude.{◌≡◌, ℕ, ◌<◌, List, ◌∷◌, ◌++◌, ℤ, pos, Some}
use Rattle.std.specs.List.{AllByRecursion}
use Rattle.table.specs.declared.triplets.Record.{Record}
use Rattle.table.specs.Grid.{Grid, cut, height_of, width_of, limited, place_of}

abbrev pub For : ℕ → ℕ → Record → Type 0
For i j r = (r.row ≡ pos i) × (r.column ≡ pos j)

abbrev pub NotFor : ℕ → ℕ → Record → Type 0
NotFor i j r = For i j r → ⊥

pub record Told (high wide : ℤ) (rs : List Record) (g : Grid) : Type 0 where
  pub tall : height_of g ≡ cut high
  pub broad : width_of g ≡ cut wide
  pub first : (i j : ℕ) → i < height_of g → j < width_of g → (before after : List Record) (r : Record) → rs ≡ before ++ (r ∷ after)
      → AllByRecursion (NotFor i j) before → For i j r → place_of g i j ≡ limited (Some r.number)
  pub absent : (i j : ℕ) → i < height_of g → j < width_of g → AllByRecursion (NotFor i j) rs → place_of g i j ≡ Some (pos 0)
