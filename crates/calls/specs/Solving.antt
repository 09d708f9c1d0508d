-- Solve: the exchange and then the walk, on the problem in force; what they find is offered like anyone's.
use Rattle.std.specs.Prelude.{ℕ, cond, List, [], ◌∷◌, ◌++◌, take, ℤ, Some, None, Ok, Err, Option, Result, nat_le}
use Rattle.std.specs.Option.{unwrap_or}
use Rattle.duality.specs.Lists.{places}
use Rattle.duality.specs.Problem.{Problem}
use Rattle.opening.specs.declared.refusal.Refusal.{Refusal}
use Rattle.opening.specs.declared.refusal.Refusal.TheVariants.{OfferLimit}
use Rattle.terms.specs.Numbers.{Numbers}
use Rattle.job.specs.Numbers as job
use Rattle.job.specs.Rows.{judged}
use Rattle.terms.specs.declared.unmet.Unmet.{Unmet}
use Rattle.reading.specs.Plain.{plain}
use Rattle.exchange.specs.Runs.{Run, exchanged, reported}
use Rattle.exchange.specs.Laws.{LawfulRun, AloneRun}
use Rattle.exchange.specs.declared.members.Offer.{Offer as Found}
use Rattle.exchange.specs.declared.members.Report.{Report as Exchanged}
use Rattle.walk.specs.Walks.{Ended, walk_from}
use Rattle.walk.specs.Laws.{Lawful, Alone}
use Rattle.walk.specs.declared.ends.Walked.{Walked}
use Rattle.calls.specs.declared.answers.Report.{Report}
use Rattle.calls.specs.States.{State, Pair}
use Rattle.calls.specs.Offers.{Offer, point, pair, took_all}

-- the problem in force, in plain numbers
abbrev pub written : State → Problem
written s = job.problem (plain s.g s.a s.numbers)

-- a budget beyond its limit: steps are 0, moves are 1
abbrev pub solve_refusal : ℕ → ℕ → Option Refusal
solve_refusal steps moves = cond (nat_le steps 1000) (cond (nat_le moves 1000000) None (Some (OfferLimit 1))) (Some (OfferLimit 0))

-- the exchange: the point that a step found, and the pair of that point with its multipliers

abbrev pub point_found : Numbers → Found → List ℤ
point_found x o = take x.ropes o.point

abbrev pub pair_found : Numbers → Found → Pair
pair_found x o = record { point = point_found x o; multipliers = take x.rows o.multipliers }

abbrev pub found_offers : Numbers → List Found → List Offer
found_offers x [] = []
found_offers x (o ∷ os) = point (point_found x o) ∷ pair (pair_found x o) ∷ found_offers x os

unfoldable pub exchange_of : State → ℕ → Run
exchange_of s steps = exchanged (written s) steps

-- the state once the exchange's offers were judged
abbrev pub after_exchange : State → ℕ → State
after_exchange s steps = took_all s (found_offers s.numbers (exchange_of s steps).offers)

-- the walk: from the held point, else from the last point found, else from the lower bounds

abbrev pub last_found : Numbers → List ℤ → List Found → List ℤ
last_found x z [] = z
last_found x z (o ∷ os) = last_found x (point_found x o) os

abbrev pub start_of : State → ℕ → List ℤ
start_of s steps = unwrap_or (after_exchange s steps).point (last_found s.numbers s.numbers.l (exchange_of s steps).offers)

unfoldable pub walk_of : State → ℕ → ℕ → Ended
walk_of s steps moves = walk_from (written s) moves (start_of s steps)

-- its end is offered if it breaks no row
abbrev pub if_met : Result (Unit {0}) Unmet → List ℤ → List Offer
if_met (Ok _) z = point z ∷ []
if_met (Err _) z = []

abbrev pub walk_offers : State → ℕ → ℕ → List Offer
walk_offers s steps moves = if_met (judged (written s) (places (walk_of s steps moves).point)) (walk_of s steps moves).point

-- all that solve offers, in its order
abbrev pub solve_offers : State → ℕ → ℕ → List Offer
solve_offers s steps moves = found_offers s.numbers (exchange_of s steps).offers ++ walk_offers s steps moves

abbrev pub report : State → ℕ → ℕ → Report
report s steps moves =
    record {
      steps = (exchange_of s steps).steps;
      exchange = (exchange_of s steps).ending;
      moves = (walk_of s steps moves).moves;
      walk = (walk_of s steps moves).end;
      smallest = reported (exchange_of s steps).smallest;
    }

-- what the report says of the exchange, and of the walk

abbrev pub exchange_in : Report → Exchanged
exchange_in r = record { steps = r.steps; end = r.exchange; smallest = r.smallest }

abbrev pub walk_in : Report → Walked
walk_in r = record { moves = r.moves; end = r.walk }

-- Law: the exchange that is reported was made step by step, and the walk move by move, as their own laws say: each step means what it says of the
-- working set, each move is the first that lowers, no count passes its budget, and an end is told exactly where it came. No other offers, point or counts do.
pub record LawfulSolve (s : State) (steps moves : ℕ) (r : Report) : Type 0 where
  pub exchanged : LawfulRun (written s) steps (exchange_of s steps).offers (exchange_in r)
  pub exchanged_alone : AloneRun (written s) steps (exchange_of s steps).offers (exchange_in r)
  pub walked : Lawful (written s) moves (start_of s steps) (walk_of s steps moves).point (walk_in r)
  pub walked_alone : Alone (written s) moves (start_of s steps) (walk_of s steps moves).point (walk_in r)
