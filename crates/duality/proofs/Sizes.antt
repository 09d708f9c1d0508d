-- How large a number can be, by nat_abs: what code needs so that its sums and products fit their types.
use Rattle.std.proofs.Common.{◌≡◌, ℕ, zero, suc, ◌+◌, ◌*◌, ◌<◌, ◌≤◌, ℤ, pos, negsuc, ◌+ℤ◌, ◌-ℤ◌, ◌*ℤ◌, neg_ℤ, nat_abs, refl, mul-le-mul, arith}
use borrow.Author.Differences.{abs_is}
use Rattle.std.specs.Int.{int_max, int_min}
use Rattle.std.proofs.lemmas.Int.{clamps}
use Rattle.duality.specs.Sums.{Vector, ∑, dot}
use Rattle.duality.proofs.Ring.{lin}

-- for omega: `lin`, and nat_abs
pub ruleset sizes = (lin, abs_is)

pub nat_abs_neg : (a : ℤ) → nat_abs (neg_ℤ a) ≡ nat_abs a
nat_abs_neg a = omega (arith, sizes)

pub nat_abs_add : (a b : ℤ) → nat_abs (a +ℤ b) ≤ nat_abs a + nat_abs b
nat_abs_add a b = omega (arith, sizes)

pub nat_abs_sub : (a b : ℤ) → nat_abs (a -ℤ b) ≤ nat_abs a + nat_abs b
nat_abs_sub a b = omega (arith, sizes)

pub nat_abs_mul : (a b : ℤ) → nat_abs (a *ℤ b) ≡ nat_abs a * nat_abs b
nat_abs_mul (pos a) (pos b) = refl
nat_abs_mul (pos a) (negsuc b) = nat_abs_neg (pos (a * suc b))
nat_abs_mul (negsuc a) (pos b) = nat_abs_neg (pos (suc a * b))
nat_abs_mul (negsuc a) (negsuc b) = refl

-- the same from bounds on the parts
pub small_add : (p q : ℕ) (a b : ℤ) → nat_abs a ≤ p → nat_abs b ≤ q → nat_abs (a +ℤ b) ≤ p + q
small_add p q a b h k = omega (arith, nat_abs_add a b)

pub small_sub : (p q : ℕ) (a b : ℤ) → nat_abs a ≤ p → nat_abs b ≤ q → nat_abs (a -ℤ b) ≤ p + q
small_sub p q a b h k = omega (arith, nat_abs_sub a b)

pub small_mul : (p q : ℕ) (a b : ℤ) → nat_abs a ≤ p → nat_abs b ≤ q → nat_abs (a *ℤ b) ≤ p * q
small_mul p q a b h k = rw (nat_abs_mul a b) (mul-le-mul h k)

pub small_max : (p : ℕ) (a b : ℤ) → nat_abs a ≤ p → nat_abs b ≤ p → nat_abs (int_max a b) ≤ p
small_max p a b h k = omega (arith, sizes, clamps)

pub small_min : (p : ℕ) (a b : ℤ) → nat_abs a ≤ p → nat_abs b ≤ p → nat_abs (int_min a b) ≤ p
small_min p a b h k = omega (arith, sizes, clamps)

pub small-∑ : (n b : ℕ) (f : Vector) → ((k : ℕ) → k < n → nat_abs (f k) ≤ b) → nat_abs (∑ n f) ≤ n * b
small-∑ zero b f h = omega arith
small-∑ (suc n) b f h =
    let below : nat_abs (∑ n f) ≤ n * b = small-∑ n b f (λ k l. h k (omega arith)) in
    let here : nat_abs (f n) ≤ b = h n (omega arith) in
    omega (arith, nat_abs_add (∑ n f) (f n))

-- `row n A z i` is `dot n (A i) z`, and `column m A y j` is `dot m y (λ i. A i j)`
pub small_dot : (n p q : ℕ) (x y : Vector) → ((k : ℕ) → k < n → nat_abs (x k) ≤ p) → ((k : ℕ) → k < n → nat_abs (y k) ≤ q) → nat_abs (dot n x y) ≤ n * (p * q)
small_dot n p q x y h k = small-∑ n (p * q) (λ j. x j *ℤ y j) (λ j l. small_mul p q (x j) (y j) (h j l) (k j l))
