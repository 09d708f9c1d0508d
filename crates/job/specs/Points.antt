-- How the cost changes along one rope.
use Rattle.std.specs.Prelude.{◌≡◌, ℕ, cond, ℤ, pos, ◌+ℤ◌, ◌*ℤ◌, ◌==◌}
use Rattle.duality.specs.Sums.{Vector, row, column}
use Rattle.duality.specs.Problem.{Problem, cost}

-- place j of (G + Gᵀ) z + 2 c, the cost's gradient, whether G is symmetric or not
abbrev pub gradient : Problem → Vector → ℕ → ℤ
gradient P z j = row P.ropes P.G z j +ℤ column P.ropes P.G z j +ℤ pos 2 *ℤ P.c j

-- z with d more at rope j
abbrev pub nudged : Vector → ℕ → ℤ → Vector
nudged z j d k = cond (k == j) (z k +ℤ d) (z k)

-- Law: how the cost changes as one rope moves, from the gradient g at that rope.
abbrev pub CostChange : Problem → Vector → ℕ → ℤ → Type 0
CostChange P z j g = (d : ℤ) → cost P (nudged z j d) ≡ cost P z +ℤ d *ℤ (g +ℤ P.G j j *ℤ d)
