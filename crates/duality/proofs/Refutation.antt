-- Multipliers that refute leave no feasible point: at one, yᵀA z would be both at most what is allowed and at least what is needed.
use Rattle.std.proofs.Common.{◌*ℤ◌, ◌≤ℤ◌, arith}
use Rattle.std.proofs.lemmas.Int.{clamps}
use Rattle.duality.specs.Sums.{Vector, dot, column}
use Rattle.duality.specs.Problem.{Problem, Feasible, row_at}
use Rattle.duality.specs.Refutation.{highest, lowest, most_allowed, least_needed, NoneSound}
use Rattle.duality.proofs.Ring.{lin}
use Rattle.duality.proofs.Order.{*ℤ-between}
use Rattle.duality.proofs.Sums.{∑-le}
use Rattle.duality.proofs.Forms.{column_dot}

module _ (P : Problem) (y z : Vector) (f : Feasible P z) where
  at_most : dot P.ropes (column P.rows P.A y) z ≤ℤ most_allowed P y
  unfolding most_allowed
  at_most =
      ∑-le P.ropes (λ j. w j *ℤ z j) (λ j. highest (w j) (P.l j) (P.u j))
      (λ j k. omega (arith, lin, clamps, *ℤ-between (w j) (z j) (P.l j) (P.u j) (f.bound_l j k) (f.bound_u j k)))
    where
      w : Vector
      w = column P.rows P.A y

  at_least : least_needed P y ≤ℤ dot P.rows y (row_at P z)
  unfolding least_needed
  at_least =
      ∑-le P.rows (λ i. lowest (y i) (P.lo i) (P.hi i)) (λ i. y i *ℤ row_at P z i)
      (λ i k. omega (arith, lin, clamps, *ℤ-between (y i) (row_at P z i) (P.lo i) (P.hi i) (f.row_lo i k) (f.row_hi i k)))

pub none_sound : NoneSound
none_sound P y r z f = omega (arith, lin, at_most P y z f, at_least P y z f, column_dot P.rows P.ropes P.A y z)
