-- A job that is written and read again, and a card that is read and written again.
use Rattle.std.specs.Prelude.{◌≡◌, ℕ, ◌⊎◌, List, None, Ok}
use Rattle.table.specs.Grid.{Grid, height_of, width_of, place_of}
use Rattle.table.specs.Laws.{Alike}
use Rattle.card.specs.Faults.{card_check}
use Rattle.card.specs.Grids.{curvature_grid, rows_grid}
use Rattle.opening.specs.Opening.{Numbers, open_fault}
use Rattle.sheet.specs.Numbers.{card_for}
use Rattle.sheet.specs.Reading.{lists_on}

-- Law: the card has the numbers of the job. A table without rows may have had another width.
pub record Carries (card : List ℕ) (g a : Grid) (x : Numbers) : Type 0 where
  pub passes : card_check card ≡ Ok tt
  pub curvature : Alike (curvature_grid card) g
  pub high : height_of (rows_grid card) ≡ height_of a
  pub wide : (height_of a ≡ 0) ⊎ (width_of (rows_grid card) ≡ width_of a)
  pub rows : (i j : ℕ) → place_of (rows_grid card) i j ≡ place_of a i j
  pub lists : lists_on card ≡ x
  pub opens : open_fault (curvature_grid card) (rows_grid card) (lists_on card) ≡ None

-- Theorem: a card that passes and whose job opens is, written again, the same bytes.
abbrev pub SameAgain : List ℕ → Type 0
SameAgain card =
    card_check card ≡ Ok tt → open_fault (curvature_grid card) (rows_grid card) (lists_on card) ≡ None
    → card_for (curvature_grid card) (rows_grid card) (lists_on card) ≡ card
