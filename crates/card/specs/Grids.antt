-- What the tables of a card mean, on arbitrary bytes: sizes by the head's two numbers, numbers by the layout that the cut sizes give.
use Rattle.std.specs.Prelude.{◌≡◌, ℕ, ◌+◌, ◌*◌, ◌<◌, List, ℤ, pos, Some, slice_index_or}
use Rattle.std.specs.Option.{unwrap_or}
use Rattle.block.specs.Bytes.{number_at}
use Rattle.block.specs.declared.kind.Kind.{Kind}
use Rattle.block.specs.declared.kind.Kind.TheVariants.{Curvature, Rows}
use Rattle.section.specs.Layout.{first_of}
use Rattle.section.specs.Numbers.{numbers_in}
use Rattle.section.specs.Sections.{spot_of}
use Rattle.table.specs.Grid.{Grid, cut, height_of, width_of, limited, place_of}
use Rattle.card.specs.declared.card_table.CardTable.{CardTable}
use Rattle.card.specs.Faults.{n_of, m_of}

-- a size in the head as it stands there, 0 where the bytes end before it
abbrev pub size_at : List ℕ → ℕ → ℤ
size_at card at = unwrap_or (number_at card at) (pos 0)

-- a section from block `first` on, read row by row
abbrev pub section_grid : List ℕ → ℕ → ℤ → ℤ → Grid
section_grid card first rows columns =
    record { rows = rows; columns = columns; cell = λ i j. number_at card (first * 512 + spot_of (i * cut columns + j)) }

-- section G: as many rows and columns as there are ropes
abbrev pub curvature_grid : List ℕ → Grid
curvature_grid card = section_grid card (first_of Curvature (cut (size_at card 4)) (cut (size_at card 8))) (size_at card 4) (size_at card 4)

-- section A, after the blocks of G
abbrev pub rows_grid : List ℕ → Grid
rows_grid card = section_grid card (first_of Rows (cut (size_at card 4)) (cut (size_at card 8))) (size_at card 8) (size_at card 4)

-- what a card table means
abbrev pub grid_of : CardTable → Grid
grid_of t = section_grid t.bytes.now t.first t.rows t.columns

-- numbers one behind the other from byte `at` on, as one row
abbrev pub run_grid : List ℕ → ℕ → ℕ → Grid
run_grid bytes at count = record { rows = pos 1; columns = pos count; cell = λ i j. number_at bytes (at + j * 4) }

-- a grid has the numbers of a section of n columns, those beyond the limit of a place as blanks
pub record Holds (card : List ℕ) (kind : Kind) (rows : ℕ) (g : Grid) : Type 0 where
  pub high : height_of g ≡ rows
  pub wide : width_of g ≡ n_of card
  pub places : (i j : ℕ) → i < rows → j < n_of card
      → place_of g i j ≡ limited (Some (slice_index_or (numbers_in card (n_of card) (m_of card) kind) (i * n_of card + j) (pos 0)))
