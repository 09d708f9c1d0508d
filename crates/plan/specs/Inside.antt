-- Lists that are held, if one is: a point then lies inside its bounds.
use Rattle.std.specs.Prelude.{ℕ, Bool, true, List, length, ℤ, Some, None, Option}
use Rattle.duality.specs.Lists.{places}
use Rattle.duality.specs.Tests.{all, between, many_within}
use Rattle.arrayvec.specs.ArrayVec.{ArrayVec}

-- what is held passes the test
abbrev pub passes : (List ℤ → Bool) → Option (ArrayVec ℤ) → Bool
passes test None = true
passes test (Some v) = test v.items

abbrev pub held_inside : Option (ArrayVec ℤ) → List ℤ → List ℤ → Bool
held_inside held l u = passes (λ z. all (λ k. between (places l k) (places u k) (places z k)) (length z)) held

abbrev pub held_within : ℕ → ℕ → Option (ArrayVec ℤ) → Bool
held_within n limit held = passes (many_within n limit) held
