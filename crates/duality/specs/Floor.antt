-- The floor that a pair shows: a point p, which may break rows and bounds, and a multiplier for each row.
--
-- The multiplier y_i stands for y_i ÷ 256, so a floor is compared with 256 times a cost. Multipliers may have any sign.
use Rattle.std.specs.Prelude.{ℤ, pos, ◌+ℤ◌, ◌-ℤ◌, ◌*ℤ◌, ◌≤ℤ◌, ◌<ℤ◌}
use Rattle.std.specs.Int.{int_max}
use Rattle.duality.specs.Sums.{Vector, Matrix, ∑, column}
use Rattle.duality.specs.Problem.{Problem, Feasible, Optimal, cost, row_at, slope}
use Rattle.duality.specs.Convex.{Symmetric, Convex, SlipHolds}

-- r_j, what the multipliers leave of 256·(G p + c)
unfoldable pub residual : Problem → Vector → Vector → Vector
residual P p y j = pos 256 *ℤ slope P p j -ℤ column P.rows P.A y j

-- the most that w·(x - v) can be while v runs from low to high
abbrev pub furthest : ℤ → ℤ → ℤ → ℤ → ℤ
furthest w x low high = int_max (w *ℤ (x -ℤ low)) (w *ℤ (x -ℤ high))

-- g, the most by which 256·(G p + c)ᵀd can fall along a way d from p to a feasible point
unfoldable pub slack : Problem → Vector → Vector → ℤ
slack P p y =
    ∑ P.rows (λ i. furthest (y i) (row_at P p i) (P.lo i) (P.hi i))
    +ℤ ∑ P.ropes (λ j. furthest (residual P p y j) (p j) (P.l j) (P.u j))

-- half of the gradient made the slack, so the slack counts twice
abbrev pub floor : Problem → Vector → Vector → ℤ
floor P p y = pos 256 *ℤ cost P p -ℤ pos 2 *ℤ slack P p y

-- how far above the pair's floor the point z costs
abbrev pub gap : Problem → Vector → Vector → Vector → ℤ
gap P p y z = pos 256 *ℤ cost P z -ℤ floor P p y

-- v is at most 256 times the cost of every feasible point
abbrev pub LowerBound : Problem → ℤ → Type 0
LowerBound P v = (z : Vector) → Feasible P z → v ≤ℤ (pos 256 *ℤ cost P z)

-- Theorem: under a convex cost the floor of any pair is a lower bound, wherever its point lies.
abbrev pub FloorSound : Type 0
FloorSound = (P : Problem) → Symmetric P.ropes P.G → Convex P.ropes P.G → (p y : Vector) → LowerBound P (floor P p y)

-- Theorem: so it is where a slip holds, with no word of convexity.
abbrev pub SlipFloor : Type 0
SlipFloor = (P : Problem) (L : Matrix) → Symmetric P.ropes P.G → SlipHolds P.ropes P.G L → (p y : Vector) → LowerBound P (floor P p y)

-- Theorem: whatever a feasible point x saves over z, 256 times that is at most the gap of z.
abbrev pub GapSound : Type 0
GapSound =
    (P : Problem) (L : Matrix) → Symmetric P.ropes P.G → SlipHolds P.ropes P.G L →
    (p y z x : Vector) → Feasible P x → (pos 256 *ℤ (cost P z -ℤ cost P x)) ≤ℤ gap P p y z

-- Theorem: a feasible point with a gap below 256 is optimal, since costs are whole numbers.
abbrev pub GapClosed : Type 0
GapClosed =
    (P : Problem) (L : Matrix) → Symmetric P.ropes P.G → SlipHolds P.ropes P.G L →
    (p y z : Vector) → Feasible P z → gap P p y z <ℤ pos 256 → Optimal P z
