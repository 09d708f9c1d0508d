-- Which row a point breaks first, or which bound: how the first of several tests that fails is told.
use Rattle.std.specs.Prelude.{ℕ, ◌<◌, Bool, cond, ◌≤ℤ◌, Some, None, Ok, Err, Option, Result}
use Rattle.duality.specs.Sums.{Vector}
use Rattle.duality.specs.Problem.{Problem, row_at}
use Rattle.duality.specs.Tests.{first_not, between}
use Rattle.terms.specs.declared.unmet.Unmet.{Unmet}
use Rattle.terms.specs.declared.unmet.Unmet.TheVariants.{At, NoPoint}

abbrev pub RowKept : Problem → Vector → ℕ → Type 0
RowKept P z i = (P.lo i ≤ℤ row_at P z i) × (row_at P z i ≤ℤ P.hi i)

-- the same as a test
abbrev pub keeps_row : Problem → Vector → ℕ → Bool
keeps_row P z i = between (P.lo i) (P.hi i) (row_at P z i)

abbrev pub finding : Option ℕ → Result (Unit {0}) Unmet
finding None = Ok tt
finding (Some i) = Err (At i)

-- of a point, the first place below n that fails the test
abbrev pub found : Bool → (ℕ → Bool) → ℕ → Result (Unit {0}) Unmet
found point p n = cond point (finding (first_not p n)) (Err NoPoint)

-- Law: what names a place names the first one that is not kept.
abbrev pub Finds : (ℕ → Type 0) → ℕ → Result (Unit {0}) Unmet → Type 0
Finds Keeps n (Ok _) = (k : ℕ) → k < n → Keeps k
Finds Keeps n (Err (At i)) = (i < n) × (Keeps i → ⊥) × ((k : ℕ) → k < i → Keeps k)
Finds Keeps n (Err NoPoint) = Unit {0}
