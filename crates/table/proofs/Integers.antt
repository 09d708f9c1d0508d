-- The size of a sum and of a product of integers, and what fits 64 bits.
use Rattle.std.proofs.Common.{◌≡◌, ℕ, zero, suc, ◌+◌, ◌*◌, ◌^◌, ◌<◌, ◌≤◌, ℤ, pos, negsuc, ◌+ℤ◌, ◌*ℤ◌, neg_ℤ, nat_abs, refl, suc-mul, mul-le-mul, arith, w64, SFits, to_z, of_z}
use borrow.Author.Differences.{abs_is}
use Rattle.std.proofs.lemmas.Int.{ints, to_z-of_z}
use Rattle.duality.specs.Sums.{Vector, ∑}

pub abs_add : (a b : ℤ) → nat_abs (a +ℤ b) ≤ nat_abs a + nat_abs b
abs_add a b = omega (arith, ints, abs_is a, abs_is b, abs_is (a +ℤ b))

abs_neg : (n : ℕ) → nat_abs (neg_ℤ (pos n)) ≡ n
abs_neg zero = refl
abs_neg (suc n) = refl

pub abs_mul : (a b : ℤ) → nat_abs (a *ℤ b) ≡ nat_abs a * nat_abs b
abs_mul (pos a) (pos b) = refl
abs_mul (pos a) (negsuc b) = abs_neg (a * suc b)
abs_mul (negsuc a) (pos b) = abs_neg (suc a * b)
abs_mul (negsuc a) (negsuc b) = refl

pub abs_mul_le : (a b : ℤ) (m n : ℕ) → nat_abs a ≤ m → nat_abs b ≤ n → nat_abs (a *ℤ b) ≤ m * n
abs_mul_le a b m n h k = rw abs_mul (mul-le-mul h k)

pub fits_below : (z : ℤ) → nat_abs z ≤ 2 ^ 62 → SFits w64 z
fits_below (pos n) h = record { sfits = omega arith }
fits_below (negsuc n) h = record { sfits = omega arith }

-- a product, as the code holds it
pub mul_held : (a b : ℤ) → SFits w64 a → SFits w64 b → SFits w64 (a *ℤ b) → to_z w64 (of_z w64 (to_z w64 (of_z w64 a) *ℤ to_z w64 (of_z w64 b))) ≡ a *ℤ b
mul_held a b fa fb fab = simp to_z-of_z

pub abs_sum : (f : Vector) (m n : ℕ) → ((k : ℕ) → k < n → nat_abs (f k) ≤ m) → nat_abs (∑ n f) ≤ n * m
abs_sum f m zero h = omega arith
abs_sum f m (suc n) h =
    let p : nat_abs (∑ n f) ≤ n * m = abs_sum f m n (λ k lt. h k (omega arith)) in
    let q : nat_abs (f n) ≤ m = h n (omega arith) in
    let r = abs_add (∑ n f) (f n) in
    omega (arith, suc-mul n m)
