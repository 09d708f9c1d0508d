-- The two parts of a pair's slack, and what a floor and a refutation are for.
use Rattle.std.specs.Prelude.{◌≡◌, Bool, true, ℤ, int_lt}
use Rattle.duality.specs.Sums.{Vector, ∑}
use Rattle.duality.specs.Problem.{Problem, Feasible, row_at}
use Rattle.duality.specs.Convex.{Symmetric, Convex}
use Rattle.duality.specs.Floor.{residual, furthest, LowerBound}
use Rattle.duality.specs.Refutation.{most_allowed, least_needed}

abbrev pub slack_of_rows : Problem → Vector → Vector → ℤ
slack_of_rows P p y = ∑ P.rows (λ i. furthest (y i) (row_at P p i) (P.lo i) (P.hi i))

abbrev pub slack_of_ropes : Problem → Vector → Vector → ℤ
slack_of_ropes P p y = ∑ P.ropes (λ j. furthest (residual P p y j) (p j) (P.l j) (P.u j))

-- Law: under a convex cost, v is at most 256 times the cost of every feasible point.
abbrev pub Floors : Problem → ℤ → Type 0
Floors P v = Symmetric P.ropes P.G → Convex P.ropes P.G → LowerBound P v

-- Refutes as a test
abbrev pub refuting : Problem → Vector → Bool
refuting P y = int_lt (most_allowed P y) (least_needed P y)

-- Law: where b holds, no point is feasible.
abbrev pub LeavesNone : Problem → Bool → Type 0
LeavesNone P b = b ≡ true → (z : Vector) → Feasible P z → ⊥
