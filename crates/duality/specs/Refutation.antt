-- Multipliers that show that no point is feasible.
--
-- The multipliers y, here plain whole numbers of any sign, weigh the rows into one: yᵀA z. The bounds cap that sum, the rows hold it up.
use Rattle.std.specs.Prelude.{ℤ, ◌*ℤ◌, ◌<ℤ◌}
use Rattle.std.specs.Int.{int_max, int_min}
use Rattle.duality.specs.Sums.{Vector, ∑, column}
use Rattle.duality.specs.Problem.{Problem, Feasible}

-- the most and the least that w·v can be while v runs from low to high
abbrev pub highest : ℤ → ℤ → ℤ → ℤ
highest w low high = int_max (w *ℤ low) (w *ℤ high)

abbrev pub lowest : ℤ → ℤ → ℤ → ℤ
lowest w low high = int_min (w *ℤ low) (w *ℤ high)

-- the most that the bounds allow yᵀA z to be
unfoldable pub most_allowed : Problem → Vector → ℤ
most_allowed P y = ∑ P.ropes (λ j. highest (column P.rows P.A y j) (P.l j) (P.u j))

-- the least that the rows' limits need it to be
unfoldable pub least_needed : Problem → Vector → ℤ
least_needed P y = ∑ P.rows (λ i. lowest (y i) (P.lo i) (P.hi i))

abbrev pub Refutes : Problem → Vector → Type 0
Refutes P y = most_allowed P y <ℤ least_needed P y

-- Theorem: multipliers that refute leave no feasible point.
abbrev pub NoneSound : Type 0
NoneSound = (P : Problem) (y : Vector) → Refutes P y → (z : Vector) → Feasible P z → ⊥
