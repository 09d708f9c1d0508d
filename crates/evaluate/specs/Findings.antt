-- Which bound a point breaks, and when it is feasible.
use Rattle.std.specs.Prelude.{ℕ, Bool, ◌&&◌, ◌≤ℤ◌}
use Rattle.duality.specs.Sums.{Vector}
use Rattle.duality.specs.Problem.{Problem}
use Rattle.duality.specs.Tests.{all, between}
pub use Rattle.terms.specs.Findings.{RowKept, keeps_row, finding, found, Finds}

abbrev pub BoundKept : Problem → Vector → ℕ → Type 0
BoundKept P z j = (P.l j ≤ℤ z j) × (z j ≤ℤ P.u j)

-- the same as a test
abbrev pub keeps_bound : Problem → Vector → ℕ → Bool
keeps_bound P z j = between (P.l j) (P.u j) (z j)

-- every row and every bound is kept
abbrev pub feasible : Problem → Vector → Bool
feasible P z = all (keeps_row P z) P.rows && all (keeps_bound P z) P.ropes
