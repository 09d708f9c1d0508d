-- A plan as a state: its tables, the numbers in force, and what it holds.
use Rattle.std.specs.Prelude.{List, ℤ, Option}
use Rattle.duality.specs.Lists.{places}
use Rattle.duality.specs.Problem.{Problem}
use Rattle.duality.specs.Floor.{floor}
use Rattle.table.specs.Grid.{Grid}
use Rattle.terms.specs.Numbers.{Numbers}
use Rattle.evaluate.specs.Stated.{stated}

-- a point, which may break rows and bounds, and a multiplier for each row
pub record Pair : Type 0 where
  pub point : List ℤ
  pub multipliers : List ℤ

pub record State : Type 0 where
  pub g : Grid
  pub a : Grid
  pub numbers : Numbers
  pub point : Option (List ℤ)
  pub proof : Option (List ℤ)
  pub pair : Pair

-- the problem that the tables and the numbers in force state
abbrev pub problem : State → Problem
problem s = stated s.g s.a s.numbers

abbrev pub floor_of : Problem → Pair → ℤ
floor_of P q = floor P (places q.point) (places q.multipliers)

-- the same state with other things held, or under other numbers

abbrev pub with_point : State → Option (List ℤ) → State
with_point s h = record { g = s.g; a = s.a; numbers = s.numbers; point = h; proof = s.proof; pair = s.pair }

abbrev pub with_proof : State → Option (List ℤ) → State
with_proof s h = record { g = s.g; a = s.a; numbers = s.numbers; point = s.point; proof = h; pair = s.pair }

abbrev pub with_pair : State → Pair → State
with_pair s q = record { g = s.g; a = s.a; numbers = s.numbers; point = s.point; proof = s.proof; pair = q }

abbrev pub with_numbers : State → Numbers → State
with_numbers s x = record { g = s.g; a = s.a; numbers = x; point = s.point; proof = s.proof; pair = s.pair }
