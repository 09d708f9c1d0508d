-- What a list of records means: a number for each place that a record names.
use Rattle.std.specs.Prelude.{◌≡◌, ℕ, ◌<◌, Bool, false, cond, ◌&&◌, List, [], ◌∷◌, length, ℤ, pos, negsuc, Some, ◌==◌}
use Rattle.table.specs.declared.triplets.Record.{Record}
use Rattle.duality.specs.Lists.{places}
use Rattle.table.specs.Grid.{Grid}

-- the whole number z is the index k
abbrev pub is_index : ℤ → ℕ → Bool
is_index (pos n) k = n == k
is_index (negsuc n) k = false

abbrev pub is_for : Record → ℕ → ℕ → Bool
is_for r i j = is_index r.row i && is_index r.column j

-- the number of the first record for a place, and 0 where there is none
abbrev pub recorded : List Record → ℕ → ℕ → ℤ
recorded [] i j = pos 0
recorded (r ∷ rs) i j = cond (is_for r i j) r.number (recorded rs i j)

abbrev pub triplet_grid : ℤ → ℤ → List Record → Grid
triplet_grid high wide rs = record { rows = high; columns = wide; cell = λ i j. Some (recorded rs i j) }

-- a row after the record's number was written at its column, if it is for row i
abbrev pub Written : List ℤ → Record → ℕ → List ℤ → Type 0
Written old r i new = (j : ℕ) → j < length old → places new j ≡ cond (is_for r i j) r.number (places old j)
