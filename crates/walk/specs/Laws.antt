-- What every walk keeps to, in the words of a problem.
use Rattle.std.specs.Prelude.{◌≡◌, ℕ, zero, suc, ◌≤◌, ◌⊎◌, List, ℤ, ◌≤ℤ◌, ◌<ℤ◌}
use Rattle.duality.specs.Lists.{places}
use Rattle.duality.specs.Sums.{Vector}
use Rattle.duality.specs.Problem.{Problem, cost}
use Rattle.job.specs.Bounds.{InBounds}
use Rattle.job.specs.Rows.{outside}
use Rattle.walk.specs.Moves.{after}
use Rattle.walk.specs.Order.{Before}
use Rattle.walk.specs.Lowering.{Below, Step}
use Rattle.walk.specs.declared.moves.Move.{Move}
use Rattle.walk.specs.declared.ends.Walked.{Walked}
use Rattle.walk.specs.declared.ends.End.TheVariants.{Settled, Spent}

-- a move that may be made from z and lowers
abbrev pub Descent : Problem → List ℤ → Move → Type 0
Descent P z m = Step P z m × Below P (places z) (places (after z m))

-- and no move that comes before it in the order of the search does
abbrev pub FirstDescent : Problem → List ℤ → Move → Type 0
FirstDescent P z m = Descent P z m × ((k : Move) → Before k m → Descent P z k → ⊥)

-- n moves lead from z to y, and each is the first that lowers
abbrev pub Downhill : Problem → List ℤ → ℕ → List ℤ → Type 0
Downhill P z zero y = z ≡ y
Downhill P z (suc n) y = (m : Move) × FirstDescent P z m × Downhill P (after z m) n y

-- y is no worse than z
abbrev pub NoWorse : Problem → Vector → Vector → Type 0
NoWorse P z y = (outside P y <ℤ outside P z) ⊎ ((outside P y ≡ outside P z) × (cost P y ≤ℤ cost P z))

-- a walk from z to y
pub record Lawful (P : Problem) (budget : ℕ) (z y : List ℤ) (w : Walked) : Type 0 where
  -- each move taken is the first that lowers, and the count is that of the moves taken
  pub descends : Downhill P z w.moves y
  pub within_budget : w.moves ≤ budget
  pub from_bounds : InBounds P z
  pub in_bounds : InBounds P y
  pub no_worse : NoWorse P (places z) (places y)
  -- settled means that no move lowers; spent, that one does and the budget is used
  pub settled : w.end ≡ Settled → (m : Move) → Descent P y m → ⊥
  pub spent : w.end ≡ Spent → (w.moves ≡ budget) × ((m : Move) × Descent P y m)

-- no other end and report keep to the law
abbrev pub Alone : Problem → (budget : ℕ) → (z y : List ℤ) → Walked → Type 0
Alone P budget z y w = (y' : List ℤ) (w' : Walked) → Lawful P budget z y' w' → (y' ≡ y) × (w' ≡ w)

-- a refusal: z is no point inside its bounds, and stands
abbrev pub Refused : Problem → (z y : List ℤ) → Type 0
Refused P z y = (InBounds P z → ⊥) × (y ≡ z)
