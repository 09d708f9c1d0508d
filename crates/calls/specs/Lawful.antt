-- When an offer is lawful, in the words of the problem, and what that has to do with refusals.
use Rattle.std.specs.Prelude.{◌≡◌, List, length, ℤ, None, Option}
use Rattle.duality.specs.Lists.{places}
use Rattle.duality.specs.Problem.{Problem, Feasible}
use Rattle.duality.specs.Refutation.{Refutes}
use Rattle.opening.specs.declared.refusal.Refusal.{Refusal}
use Rattle.opening.specs.Fits.{Near}
use Rattle.calls.specs.States.{Pair}

-- n whole numbers within ±32,768 that meet every row and bound
pub record LawfulPoint (P : Problem) (z : List ℤ) : Type 0 where
  pub long : length z ≡ P.ropes
  pub near : Near 32768 z
  pub feasible : Feasible P (places z)

-- a point that may break rows and bounds, and a multiplier within ±16,777,216 for each row
pub record LawfulPair (P : Problem) (q : Pair) : Type 0 where
  pub long : length q.point ≡ P.ropes
  pub near : Near 32768 q.point
  pub rows : length q.multipliers ≡ P.rows
  pub light : Near 16777216 q.multipliers

-- such multipliers that refute
pub record LawfulProof (P : Problem) (y : List ℤ) : Type 0 where
  pub rows : length y ≡ P.rows
  pub light : Near 16777216 y
  pub refutes : Refutes P (places y)

-- Law: an offer is refused exactly if it is not lawful.
pub record RefusesUnlawful (Lawful : Type 0) (refusal : Option Refusal) : Type 0 where
  pub lawful : refusal ≡ None → Lawful
  pub only : Lawful → refusal ≡ None
