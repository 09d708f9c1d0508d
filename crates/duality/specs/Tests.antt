-- Tests over the places of lists.
use Rattle.std.specs.Prelude.{ℕ, zero, suc, Bool, true, false, cond, ◌&&◌, List, length, ℤ, Some, None, Option, ◌==◌, int_le, nat_le, unsigned_abs}
use Rattle.duality.specs.Lists.{places}

-- each place below n passes the test
abbrev pub all : (ℕ → Bool) → ℕ → Bool
all p zero = true
all p (suc n) = all p n && p n

-- what stands, or else n where the test failed there
abbrev pub or_here : Option ℕ → Bool → ℕ → Option ℕ
or_here (Some k) b n = Some k
or_here None true n = None
or_here None false n = Some n

-- the first place below n that fails the test
abbrev pub first_not : (ℕ → Bool) → ℕ → Option ℕ
first_not p zero = None
first_not p (suc n) = or_here (first_not p n) (p n) n

abbrev pub within : ℕ → ℤ → Bool
within limit x = nat_le (unsigned_abs x) limit

-- each number lies within ±limit
abbrev pub all_within : ℕ → List ℤ → Bool
all_within limit xs = all (λ k. within limit (places xs k)) (length xs)

abbrev pub between : ℤ → ℤ → ℤ → Bool
between low high x = int_le low x && int_le x high

-- no lower number lies above the upper one at its place
abbrev pub in_order : List ℤ → List ℤ → Bool
in_order lows highs = all (λ k. int_le (places lows k) (places highs k)) (length lows)

-- n numbers, within ±limit
abbrev pub many_within : ℕ → ℕ → List ℤ → Bool
many_within n limit xs = length xs == n && all_within limit xs

-- a value where the test holds, or nothing
abbrev pub answer : {X : Type 0} → Bool → X → Option X
answer b v = cond b (Some v) None
