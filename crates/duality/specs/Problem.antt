-- The problem: a quadratic cost over whole-number points, under two-sided rows and two-sided bounds.
--
--     least  zᵀG z + 2 cᵀz   over all z   with  lo ≤ A z ≤ hi  and  l ≤ z ≤ u
use Rattle.std.specs.Prelude.{ℕ, ◌<◌, ℤ, pos, ◌+ℤ◌, ◌*ℤ◌, ◌≤ℤ◌}
use Rattle.duality.specs.Sums.{Vector, Matrix, dot, row, quad}

pub record Problem : Type 0 where
  -- how many places a point has, and how many rows A has
  pub ropes : ℕ
  pub rows : ℕ
  -- the cost
  pub G : Matrix
  pub c : Vector
  -- the rows, with their limits
  pub A : Matrix
  pub lo : Vector
  pub hi : Vector
  -- the bounds of the places
  pub l : Vector
  pub u : Vector

-- s_i(z), what row i of A makes of z
abbrev pub row_at : Problem → Vector → ℕ → ℤ
row_at P z i = row P.ropes P.A z i

pub record Feasible (P : Problem) (z : Vector) : Type 0 where
  pub row_lo : (i : ℕ) → i < P.rows → P.lo i ≤ℤ row_at P z i
  pub row_hi : (i : ℕ) → i < P.rows → row_at P z i ≤ℤ P.hi i
  pub bound_l : (j : ℕ) → j < P.ropes → P.l j ≤ℤ z j
  pub bound_u : (j : ℕ) → j < P.ropes → z j ≤ℤ P.u j

-- zᵀG z + 2 cᵀz
unfoldable pub cost : Problem → Vector → ℤ
cost P z = quad P.ropes P.G z +ℤ pos 2 *ℤ dot P.ropes P.c z

-- place j of G z + c: half of the cost's gradient, for a symmetric G
abbrev pub slope : Problem → Vector → ℕ → ℤ
slope P z j = row P.ropes P.G z j +ℤ P.c j

-- a feasible point that no feasible point undercuts
pub record Optimal (P : Problem) (z : Vector) : Type 0 where
  pub feasible : Feasible P z
  pub cheapest : (x : Vector) → Feasible P x → cost P z ≤ℤ cost P x
