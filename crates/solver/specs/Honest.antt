-- What the sheet of a card tells, and that it is true of the problem that the card states.
use Rattle.std.specs.Prelude.{◌≡◌, ℕ, List, [], ◌∷◌, ℤ}
use Rattle.duality.specs.Problem.{Problem}
use Rattle.card.specs.Grids.{curvature_grid, rows_grid}
use Rattle.calls.specs.declared.answers.Report.{Report}
use Rattle.calls.specs.declared.answers.Shown.{Shown}
use Rattle.calls.specs.States.{State, problem}
use Rattle.calls.specs.Opened.{opened}
use Rattle.calls.specs.Histories.{solve, Offered}
use Rattle.calls.specs.Solving.{LawfulSolve}
use Rattle.calls.specs.Honesty.{Honest}
use Rattle.lines.specs.Texts.{sheet_text}
use Rattle.sheet.specs.Reading.{lists_on}

-- a plan just opened over the tables and lists of a card
abbrev pub plan_on : List ℕ → State
plan_on card = opened (curvature_grid card) (rows_grid card) (lists_on card)

-- the problem that the card states
abbrev pub stated_on : List ℕ → Problem
stated_on card = problem (plan_on card)

-- Law: the text tells of something shown that is honest about the card's problem: its cost, its floor, its gap and its point, or that none exists.
-- No offer of the solve is lost,
-- and what is reported of the solve is what it did.
pub record HonestSheet (card text : List ℕ) : Type 0 where
  pub report : Report
  pub shown : Shown
  pub point : List ℤ
  pub lines : text ≡ sheet_text report shown point
  pub solved : LawfulSolve (plan_on card) 1000 100000 report
  pub honest : Honest (stated_on card) (Offered (plan_on card) (solve 1000 100000 ∷ [])) shown point
