-- Points inside the bounds of a problem.
use Rattle.std.specs.Prelude.{◌≡◌, ℕ, ◌<◌, ◌≤◌, Bool, cond, ◌&&◌, List, map, length, ℤ, ◌-ℤ◌, ◌≤ℤ◌, unsigned_abs, ◌==◌}
use Rattle.std.specs.List.{range_with_len}
use Rattle.std.specs.Int.{int_max, int_min}
use Rattle.duality.specs.Lists.{places}
use Rattle.duality.specs.Problem.{Problem}
use Rattle.duality.specs.Tests.{all, between}

-- a number for each rope, within its bounds
pub record InBounds (P : Problem) (z : List ℤ) : Type 0 where
  pub long : length z ≡ P.ropes
  pub not_below : (k : ℕ) → k < P.ropes → P.l k ≤ℤ places z k
  pub not_above : (k : ℕ) → k < P.ropes → places z k ≤ℤ P.u k

-- the same as a test
abbrev pub is_in_bounds : Problem → List ℤ → Bool
is_in_bounds P z = length z == P.ropes && all (λ k. between (P.l k) (P.u k) (places z k)) P.ropes

-- the number of low .. high that lies nearest to x
abbrev pub held : ℤ → ℤ → ℤ → ℤ
held low high x = int_max low (int_min high x)

-- z with each number held inside its bounds; a list of another length stays
abbrev pub clamped : Problem → List ℤ → List ℤ
clamped P z =
    cond (length z == P.ropes) (map (λ k. held (P.l k) (P.u k) (places z k)) (range_with_len 0 P.ropes)) z

-- Law: z held inside the bounds is y. It lies inside them, and no number that does lies nearer to the one that stood there.
pub record HeldInside (P : Problem) (z y : List ℤ) : Type 0 where
  pub inside : InBounds P y
  pub nearest : (k : ℕ) → k < P.ropes → (w : ℤ) → P.l k ≤ℤ w → w ≤ℤ P.u k → unsigned_abs (places y k -ℤ places z k) ≤ unsigned_abs (w -ℤ places z k)
