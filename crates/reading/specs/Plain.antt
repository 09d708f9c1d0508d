-- Tables and terms as plain numbers, and what it means that two problems agree.
use Rattle.std.specs.Prelude.{◌≡◌, ℕ, ◌*◌, ◌<◌, List, map, length, ℤ}
use Rattle.std.specs.List.{range_with_len, flat_map}
use Rattle.duality.specs.Lists.{by_rows}
use Rattle.duality.specs.Floor.{floor}
use Rattle.duality.specs.Problem.{Problem, Feasible, cost}
use Rattle.duality.specs.Sums.{Vector, Matrix}
use Rattle.table.specs.Grid.{Grid, matrix_of}
use Rattle.terms.specs.Numbers as terms
use Rattle.job.specs.Numbers.{Numbers, numbers}

-- n rows of k numbers, one after the other
unfoldable pub listed : ℕ → ℕ → Matrix → List ℤ
listed n k M = flat_map (λ i. map (M i) (range_with_len 0 k)) (range_with_len 0 n)

-- Law: a list has n rows of k numbers, and the matrix's number at each place of them.
pub record RowByRow (n k : ℕ) (M : Matrix) (xs : List ℤ) : Type 0 where
  pub long : length xs ≡ n * k
  pub numbers : (i j : ℕ) → i < n → j < k → by_rows k xs i j ≡ M i j

-- the numbers of a job: the terms as they stand, G row by row, A rope by rope; a blank is 0
abbrev pub plain : Grid → Grid → terms.Numbers → Numbers
plain g a x = numbers x (listed x.ropes x.ropes (matrix_of g)) (listed x.ropes x.rows (λ j i. matrix_of a i j))

-- two problems of the same sizes, with the same number at each place within them
pub record Agrees (P Q : Problem) : Type 0 where
  pub same_ropes : P.ropes ≡ Q.ropes
  pub same_rows : P.rows ≡ Q.rows
  pub same_g : (i j : ℕ) → i < Q.ropes → j < Q.ropes → P.G i j ≡ Q.G i j
  pub same_c : (j : ℕ) → j < Q.ropes → P.c j ≡ Q.c j
  pub same_a : (i j : ℕ) → i < Q.rows → j < Q.ropes → P.A i j ≡ Q.A i j
  pub same_lo : (i : ℕ) → i < Q.rows → P.lo i ≡ Q.lo i
  pub same_hi : (i : ℕ) → i < Q.rows → P.hi i ≡ Q.hi i
  pub same_l : (j : ℕ) → j < Q.ropes → P.l j ≡ Q.l j
  pub same_u : (j : ℕ) → j < Q.ropes → P.u j ≡ Q.u j

-- Law: the same points are feasible, at the same cost.
abbrev pub SamePoints : Problem → Problem → Type 0
SamePoints P Q = (z : Vector) → (cost P z ≡ cost Q z) × (Feasible P z → Feasible Q z) × (Feasible Q z → Feasible P z)

-- Law: each pair has the same floor.
abbrev pub SameFloors : Problem → Problem → Type 0
SameFloors P Q = (p y : Vector) → floor P p y ≡ floor Q p y
