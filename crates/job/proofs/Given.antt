-- Answers that are there where a test holds.
use Rattle.std.proofs.Common.{◌≡◌, ℕ, Bool, true, false, is_some, Some, Option, arith}
use Rattle.duality.specs.Tests.{answer}

pub given : {X : Type 0} (b : Bool) (v : X) (o : Option X) → o ≡ answer b v → b ≡ true → is_some o ≡ true
given true v o e t = rw e
given false v o e t = let z : ◌≡◌ {A = ℕ} 0 1 = cc in absurd (omega arith)

-- and what is unwrapped from them
pub given_is : {X : Type 0} (b : Bool) (v w : X) (o : Option X) → o ≡ answer b v → b ≡ true → o ≡ Some w → w ≡ v
given_is true v w o e t f = cc
given_is false v w o e t f = let z : ◌≡◌ {A = ℕ} 0 1 = cc in absurd (omega arith)
