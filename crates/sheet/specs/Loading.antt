-- What loading a card answers.
use Rattle.std.specs.Prelude.{ℕ, List, Result}
use Rattle.card.specs.Faults.{card_check}
use Rattle.card.specs.Grids.{curvature_grid, rows_grid}
use Rattle.opening.specs.Opening.{open_fault}
use Rattle.opening.specs.declared.refusal.Refusal.{Refusal}
use Rattle.calls.specs.Opened.{opened}
use Rattle.calls.specs.States.{State}
use Rattle.opening.specs.Firsts.{unless}
use Rattle.sheet.specs.Reading.{passed_or, lists_on}

-- what opening answers for the tables and lists of a card
abbrev pub opened_on : List ℕ → Result State Refusal
opened_on card = unless (open_fault (curvature_grid card) (rows_grid card) (lists_on card)) (opened (curvature_grid card) (rows_grid card) (lists_on card))

-- the card's first fault, or else what opening answers
abbrev pub load_answer : List ℕ → Result State Refusal
load_answer card = passed_or (card_check card) (opened_on card)
