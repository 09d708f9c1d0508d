-- The laws of finite sums. A sum's function is never inferred: write it out at each use.
use Rattle.std.proofs.Common.{◌≡◌, ℕ, zero, suc, ◌+◌, ◌<◌, ℤ, pos, ◌+ℤ◌, ◌-ℤ◌, ◌*ℤ◌, neg_ℤ, ◌≤ℤ◌, sym, refl, ◌∙◌, add-one, arith}
use native.Mathlib.Decide.{ℕ_discrete}
use lib.IntN.{*ℤ-zero, zero-*ℤ}
use Rattle.duality.specs.Sums.{Vector, Matrix, ∑}
use Rattle.duality.proofs.Ring.{lin, *ℤ-distl, *ℤ-distr}

-- the step of a loop, which counts by n + 1; at suc n the sum computes
pub ∑-more : (n : ℕ) (f : Vector) → ∑ (n + 1) f ≡ ∑ n f +ℤ f n
∑-more n f = rw (add-one n)

pub ∑-cong : (n : ℕ) (f g : Vector) → ((k : ℕ) → k < n → f k ≡ g k) → ∑ n f ≡ ∑ n g
∑-cong zero f g h = refl
∑-cong (suc n) f g h =
    let below : ∑ n f ≡ ∑ n g = ∑-cong n f g (λ k l. h k (omega arith)) in
    let here : f n ≡ g n = h n (omega arith) in
    omega (arith, lin)

pub ∑-le : (n : ℕ) (f g : Vector) → ((k : ℕ) → k < n → f k ≤ℤ g k) → ∑ n f ≤ℤ ∑ n g
∑-le zero f g h = omega (arith, lin)
∑-le (suc n) f g h =
    let below : ∑ n f ≤ℤ ∑ n g = ∑-le n f g (λ k l. h k (omega arith)) in
    let here : f n ≤ℤ g n = h n (omega arith) in
    omega (arith, lin)

pub ∑-zero : (n : ℕ) → ∑ n (λ _. pos 0) ≡ pos 0
∑-zero zero = refl
∑-zero (suc n) = omega (arith, lin, ∑-zero n)

pub ∑-nonneg : (n : ℕ) (f : Vector) → ((k : ℕ) → k < n → pos 0 ≤ℤ f k) → pos 0 ≤ℤ ∑ n f
∑-nonneg n f h = omega (arith, lin, ∑-zero n, ∑-le n (λ _. pos 0) f h)

pub ∑-add : (n : ℕ) (f g : Vector) → ∑ n (λ k. f k +ℤ g k) ≡ ∑ n f +ℤ ∑ n g
∑-add zero f g = omega (arith, lin)
∑-add (suc n) f g = omega (arith, lin, ∑-add n f g)

pub ∑-neg : (n : ℕ) (f : Vector) → ∑ n (λ k. neg_ℤ (f k)) ≡ neg_ℤ (∑ n f)
∑-neg zero f = refl
∑-neg (suc n) f = omega (arith, lin, ∑-neg n f)

pub ∑-sub : (n : ℕ) (f g : Vector) → ∑ n (λ k. f k -ℤ g k) ≡ ∑ n f -ℤ ∑ n g
∑-sub n f g = omega (arith, lin, ∑-add n f (λ k. neg_ℤ (g k)), ∑-neg n g)

-- a factor comes out, from the left and from the right
pub ∑-scale : (n : ℕ) (c : ℤ) (f : Vector) → ∑ n (λ k. c *ℤ f k) ≡ c *ℤ ∑ n f
∑-scale zero c f = sym (*ℤ-zero c)
∑-scale (suc n) c f = omega (arith, lin, ∑-scale n c f, *ℤ-distl c (∑ n f) (f n))

pub ∑-scaled : (n : ℕ) (f : Vector) (c : ℤ) → ∑ n (λ k. f k *ℤ c) ≡ ∑ n f *ℤ c
∑-scaled zero f c = sym (zero-*ℤ c)
∑-scaled (suc n) f c = omega (arith, lin, ∑-scaled n f c, *ℤ-distr (∑ n f) (f n) c)

pub ∑-swap : (m n : ℕ) (f : Matrix) → ∑ m (λ i. ∑ n (λ j. f i j)) ≡ ∑ n (λ j. ∑ m (λ i. f i j))
∑-swap zero n f = sym (∑-zero n)
∑-swap (suc m) n f = omega (arith, lin, ∑-swap m n f, ∑-add n (λ j. ∑ m (λ i. f i j)) (f m))

pub ∑-product : (m n : ℕ) (f g : Vector) → ∑ m (λ i. ∑ n (λ j. f i *ℤ g j)) ≡ ∑ m f *ℤ ∑ n g
∑-product m n f g = ∑-cong m (λ i. ∑ n (λ j. f i *ℤ g j)) (λ i. f i *ℤ ∑ n g) (λ i l. ∑-scale n (f i) g) ∙ ∑-scaled m f (∑ n g)

-- a sum of which only the term at i counts
pub ∑-only : (n : ℕ) (f : Vector) (i : ℕ) → i < n → ((k : ℕ) → k < n → (k ≡ i → ⊥) → f k ≡ pos 0) → ∑ n f ≡ f i
∑-only zero f i l h = absurd (omega arith)
∑-only (suc n) f i l h = go (∑-only n f i) (ℕ_discrete i n)
  where
    go : (i < n → ((k : ℕ) → k < n → (k ≡ i → ⊥) → f k ≡ pos 0) → ∑ n f ≡ f i) → Dec (i ≡ n) → ∑ n f +ℤ f n ≡ f i
    go ih (yes e) =
        let below : ∑ n f ≡ ∑ n (λ _. pos 0) = ∑-cong n f (λ _. pos 0) (λ k m. h k (omega arith) (λ q. omega arith)) in
        rw e (omega (arith, lin, ∑-zero n))
    go ih (no ne) =
        let below : ∑ n f ≡ f i = ih (omega arith) (λ k m. h k (omega arith)) in
        let here : f n ≡ pos 0 = h n (omega arith) (λ q. ne (sym q)) in
        omega (arith, lin)

-- a sum of which one term changes by d
pub ∑-shift : (n : ℕ) (f g : Vector) (i : ℕ) (d : ℤ) → i < n → g i ≡ f i +ℤ d → ((k : ℕ) → k < n → (k ≡ i → ⊥) → g k ≡ f k) → ∑ n g ≡ ∑ n f +ℤ d
∑-shift n f g i d l at off =
    let change : ∑ n (λ k. g k -ℤ f k) ≡ g i -ℤ f i = ∑-only n (λ k. g k -ℤ f k) i l (λ k m ne. omega (arith, lin, off k m ne)) in
    omega (arith, lin, ∑-sub n g f)

-- a sum whose other terms are not negative is at least its term at i
pub ∑-pick : (n : ℕ) (f : Vector) (i : ℕ) → i < n → ((k : ℕ) → k < n → (k ≡ i → ⊥) → pos 0 ≤ℤ f k) → f i ≤ℤ ∑ n f
∑-pick zero f i l h = absurd (omega arith)
∑-pick (suc n) f i l h = go (∑-pick n f i) (ℕ_discrete i n)
  where
    go : (i < n → ((k : ℕ) → k < n → (k ≡ i → ⊥) → pos 0 ≤ℤ f k) → f i ≤ℤ ∑ n f) → Dec (i ≡ n) → f i ≤ℤ (∑ n f +ℤ f n)
    go ih (yes e) =
        let below : pos 0 ≤ℤ ∑ n f = ∑-nonneg n f (λ k m. h k (omega arith) (λ q. omega arith)) in
        rw e (omega (arith, lin))
    go ih (no ne) =
        let below : f i ≤ℤ ∑ n f = ih (omega arith) (λ k m. h k (omega arith)) in
        let here : pos 0 ≤ℤ f n = h n (omega arith) (λ q. ne (sym q)) in
        omega (arith, lin)

-- double sums, term by term
pub ∑∑-cong : (m n : ℕ) (f g : Matrix) → ((i j : ℕ) → i < m → j < n → f i j ≡ g i j) → ∑ m (λ i. ∑ n (λ j. f i j)) ≡ ∑ m (λ i. ∑ n (λ j. g i j))
∑∑-cong m n f g h = ∑-cong m (λ i. ∑ n (λ j. f i j)) (λ i. ∑ n (λ j. g i j)) (λ i k. ∑-cong n (f i) (g i) (λ j l. h i j k l))

pub ∑∑-add : (m n : ℕ) (f g : Matrix) → ∑ m (λ i. ∑ n (λ j. f i j +ℤ g i j)) ≡ ∑ m (λ i. ∑ n (λ j. f i j)) +ℤ ∑ m (λ i. ∑ n (λ j. g i j))
∑∑-add m n f g =
    ∑-cong m (λ i. ∑ n (λ j. f i j +ℤ g i j)) (λ i. ∑ n (λ j. f i j) +ℤ ∑ n (λ j. g i j)) (λ i k. ∑-add n (f i) (g i))
    ∙ ∑-add m (λ i. ∑ n (λ j. f i j)) (λ i. ∑ n (λ j. g i j))

pub ∑∑-sub : (m n : ℕ) (f g : Matrix) → ∑ m (λ i. ∑ n (λ j. f i j -ℤ g i j)) ≡ ∑ m (λ i. ∑ n (λ j. f i j)) -ℤ ∑ m (λ i. ∑ n (λ j. g i j))
∑∑-sub m n f g =
    ∑-cong m (λ i. ∑ n (λ j. f i j -ℤ g i j)) (λ i. ∑ n (λ j. f i j) -ℤ ∑ n (λ j. g i j)) (λ i k. ∑-sub n (f i) (g i))
    ∙ ∑-sub m (λ i. ∑ n (λ j. f i j)) (λ i. ∑ n (λ j. g i j))

pub ∑∑-scale : (m n : ℕ) (c : ℤ) (f : Matrix) → ∑ m (λ i. ∑ n (λ j. c *ℤ f i j)) ≡ c *ℤ ∑ m (λ i. ∑ n (λ j. f i j))
∑∑-scale m n c f =
    ∑-cong m (λ i. ∑ n (λ j. c *ℤ f i j)) (λ i. c *ℤ ∑ n (λ j. f i j)) (λ i k. ∑-scale n c (f i))
    ∙ ∑-scale m c (λ i. ∑ n (λ j. f i j))
