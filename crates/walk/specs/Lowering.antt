-- Moves that may be made and lower, in the words of a problem.
use Rattle.std.specs.Prelude.{◌≡◌, ℕ, ◌<◌, ◌^◌, Bool, true, false, cond, ◌⊎◌, List, ℤ, pos, ◌+ℤ◌, ◌≤ℤ◌, ◌<ℤ◌, int_lt}
use Rattle.duality.specs.Lists.{places}
use Rattle.duality.specs.Sums.{Vector, absℤ}
use Rattle.duality.specs.Problem.{Problem, cost}
use Rattle.job.specs.Rows.{outside}
use Rattle.duality.specs.Tests.{between}
use Rattle.walk.specs.Moves.{after}
use Rattle.walk.specs.declared.moves.Move.{Move}

-- y lies below z: fewer ticks outside the rows, or as many at a lower cost
abbrev pub Below : Problem → Vector → Vector → Type 0
Below P z y = (outside P y <ℤ outside P z) ⊎ ((outside P y ≡ outside P z) × (cost P y <ℤ cost P z))

-- one rope moves by a power of two, 1 to 16,384, and stays within its bounds
pub record Step (P : Problem) (z : List ℤ) (m : Move) : Type 0 where
  pub rope_there : m.rope < P.ropes
  pub size_there : (k : ℕ) × (k < 15) × (absℤ m.by ≡ pos (2 ^ k))
  pub not_below : P.l m.rope ≤ℤ (places z m.rope +ℤ m.by)
  pub not_above : (places z m.rope +ℤ m.by) ≤ℤ P.u m.rope

-- the same as tests
unfoldable pub lower : ℤ → ℤ → ℤ → ℤ → Bool
lower o q o' q' = cond (int_lt o' o) true (cond (int_lt o o') false (int_lt q' q))

unfoldable pub below : Problem → Vector → Vector → Bool
below P z y = lower (outside P z) (cost P z) (outside P y) (cost P y)

unfoldable pub allowed : Problem → List ℤ → Move → Bool
allowed P z m = between (P.l m.rope) (P.u m.rope) (places z m.rope +ℤ m.by)

-- the move may be made and lowers
unfoldable pub lowers : Problem → List ℤ → Move → Bool
lowers P z m = cond (allowed P z m) (below P (places z) (places (after z m))) false
