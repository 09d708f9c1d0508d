-- The optimality conditions of a pair, in whole numbers.
--
-- A multiplier presses only against a limit that its row touches, upwards against the lower one and downwards against the upper one;
-- and so does what is left of the gradient, against the bounds.
use Rattle.std.specs.Prelude.{◌≡◌, ℕ, ◌<◌, pos, ◌<ℤ◌}
use Rattle.duality.specs.Sums.{Vector}
use Rattle.duality.specs.Problem.{Problem, Feasible, row_at}
use Rattle.duality.specs.Floor.{residual, gap}

pub record Conditions (P : Problem) (p y : Vector) : Type 0 where
  pub feasible : Feasible P p
  pub at_lo : (i : ℕ) → i < P.rows → pos 0 <ℤ y i → row_at P p i ≡ P.lo i
  pub at_hi : (i : ℕ) → i < P.rows → y i <ℤ pos 0 → row_at P p i ≡ P.hi i
  pub at_l : (j : ℕ) → j < P.ropes → pos 0 <ℤ residual P p y j → p j ≡ P.l j
  pub at_u : (j : ℕ) → j < P.ropes → residual P p y j <ℤ pos 0 → p j ≡ P.u j

-- Theorem: a pair that meets them closes its own point's gap, so nothing is lost between cost and floor.
abbrev pub ConditionsTight : Type 0
ConditionsTight = (P : Problem) (p y : Vector) → Conditions P p y → gap P p y p ≡ pos 0
