-- When a quadratic form is never negative, and a test of that in whole numbers.
--
-- The test is handed a slip: a matrix L with LᵀL near 1,048,576·G. It holds where what LᵀL leaves of 1,048,576·G
-- has each place of its diagonal at least as large as all others of that row together.
use Rattle.std.specs.Prelude.{◌≡◌, ℕ, ◌<◌, cond, ℤ, pos, ◌-ℤ◌, ◌*ℤ◌, ◌≤ℤ◌, ◌==◌}
use Rattle.duality.specs.Sums.{Vector, Matrix, ∑, quad, absℤ}

abbrev pub Symmetric : ℕ → Matrix → Type 0
Symmetric n G = (i j : ℕ) → i < n → j < n → G i j ≡ G j i

-- dᵀG d is never negative
abbrev pub Convex : ℕ → Matrix → Type 0
Convex n G = (d : Vector) → pos 0 ≤ℤ quad n G d

-- R = 1,048,576·G - LᵀL
unfoldable pub remainder : ℕ → Matrix → Matrix → Matrix
remainder n G L i j = pos 1048576 *ℤ G i j -ℤ ∑ n (λ k. L k i *ℤ L k j)

-- |R_ij| beside the diagonal, and 0 on it
abbrev pub beside : Matrix → Matrix
beside R i j = cond (i == j) (pos 0) (absℤ (R i j))

-- the sum of |R_ij| over each j but i
unfoldable pub around : ℕ → Matrix → ℕ → ℤ
around n R i = ∑ n (λ j. beside R i j)

-- each R_ii is at least that sum
abbrev pub Dominant : ℕ → Matrix → Type 0
Dominant n R = (i : ℕ) → i < n → around n R i ≤ℤ R i i

-- the slip L holds for G
abbrev pub SlipHolds : ℕ → Matrix → Matrix → Type 0
SlipHolds n G L = Dominant n (remainder n G L)

-- Theorem: a slip that holds shows a symmetric G to be convex.
abbrev pub SlipSound : Type 0
SlipSound = (n : ℕ) (G L : Matrix) → Symmetric n G → SlipHolds n G L → Convex n G
