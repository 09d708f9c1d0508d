-- The table of sizes: how long it is, and that no size passes the largest.
use Rattle.std.proofs.Common.{◌≡◌, ℕ, zero, suc, ◌^◌, ◌≤◌, length, nat_abs, refl, arith, lit≤, pow_mono}
use Rattle.duality.specs.Lists.{places}
use Rattle.walk.specs.Moves.{powers, sizes}

powers_small : (n k : ℕ) → n ≤ 15 → nat_abs (places (powers n) k) ≤ 2 ^ 14
powers_small zero k l = omega arith
powers_small (suc n) zero l = pow_mono {i = n} {j = 14} (omega arith)
powers_small (suc n) (suc k) l = powers_small n k (omega arith)

pub sizes_small : (k : ℕ) → nat_abs (places sizes k) ≤ 16384
unfolding sizes
sizes_small k = powers_small 15 k (lit≤ tt)

pub sizes_long : length sizes ≡ 15
unfolding sizes
sizes_long = refl
