-- A slip that holds shows that the form is never negative.
--
-- 1,048,576·dᵀG d is the sum of the squares of L d, and dᵀR d. The diagonal of R outweighs the rest of each row, and since R is symmetric also
-- of each column: so it pays for |R_ij| (d_i² + d_j²) at each place beside it, and that covers 2 d_i R_ij d_j whatever the signs.
use Rattle.std.proofs.Common.{◌≡◌, ℕ, suc, ℤ, pos, negsuc, ◌+ℤ◌, ◌-ℤ◌, ◌*ℤ◌, neg_ℤ, ◌≤ℤ◌, sym, refl, ap, ◌∙◌, arith, eq-eqb, ne_eqb}
use native.Mathlib.Decide.{ℕ_discrete}
use borrow.Author.Differences.{product_is}
use lib.IntN.{zero-*ℤ, *ℤ_comm}
use Rattle.duality.specs.Sums.{Vector, Matrix, ∑, row, quad, absℤ}
use Rattle.duality.specs.Convex.{Symmetric, remainder, beside, around, Dominant, SlipSound}
use Rattle.duality.proofs.Ring.{lin, ring}
use Rattle.duality.proofs.Order.{*ℤ-nonneg, square_nonneg, *ℤ-le}
use Rattle.duality.proofs.Sums.{∑-le, ∑-add, ∑-scaled, ∑-swap, ∑-nonneg, ∑-pick, ∑∑-cong, ∑∑-add}
use Rattle.duality.proofs.Forms.{form_minus, quad_gram}

-- 2 x r y + |r| x² + |r| y² is |r| times a square
balance_pos : (x s y : ℤ) → pos 0 ≤ℤ s → pos 0 ≤ℤ ((x *ℤ s *ℤ y +ℤ x *ℤ s *ℤ y) +ℤ (s *ℤ (x *ℤ x) +ℤ s *ℤ (y *ℤ y)))
balance_pos x s y h =
    let e : pos 0 ≤ℤ (s *ℤ ((x +ℤ y) *ℤ (x +ℤ y))) = *ℤ-nonneg s ((x +ℤ y) *ℤ (x +ℤ y)) h (square_nonneg (x +ℤ y)) in
    simp ring (omega (arith, lin, simp ring at e))

balance_neg : (x s y : ℤ) → pos 0 ≤ℤ s → pos 0 ≤ℤ ((x *ℤ neg_ℤ s *ℤ y +ℤ x *ℤ neg_ℤ s *ℤ y) +ℤ (s *ℤ (x *ℤ x) +ℤ s *ℤ (y *ℤ y)))
balance_neg x s y h =
    let e : pos 0 ≤ℤ (s *ℤ ((x -ℤ y) *ℤ (x -ℤ y))) = *ℤ-nonneg s ((x -ℤ y) *ℤ (x -ℤ y)) h (square_nonneg (x -ℤ y)) in
    simp ring (omega (arith, lin, simp ring at e))

balance : (x r y : ℤ) → pos 0 ≤ℤ ((x *ℤ r *ℤ y +ℤ x *ℤ r *ℤ y) +ℤ (absℤ r *ℤ (x *ℤ x) +ℤ absℤ r *ℤ (y *ℤ y)))
balance x (pos n) y = balance_pos x (pos n) y (omega (arith, lin))
balance x (negsuc n) y = balance_neg x (pos (suc n)) y (omega (arith, lin))

beside_symmetric : (n : ℕ) (R : Matrix) → Symmetric n R → Symmetric n (beside R)
beside_symmetric n R h i j k l = go (ℕ_discrete i j)
  where
    go : Dec (i ≡ j) → beside R i j ≡ beside R j i
    go (yes e) = rw e
    go (no ne) = rw (h i j k l, ne_eqb i j ne, ne_eqb j i (λ q. ne (sym q)))

-- a term of the form, twice, with what balances it
abbrev held : Matrix → Vector → Matrix
held R d i j = (d i *ℤ R i j *ℤ d j +ℤ d i *ℤ R i j *ℤ d j) +ℤ (beside R i j *ℤ (d i *ℤ d i) +ℤ beside R i j *ℤ (d j *ℤ d j))

held_same : (R : Matrix) (d : Vector) (i : ℕ) → R i i *ℤ (d i *ℤ d i) +ℤ R i i *ℤ (d i *ℤ d i) ≡ held R d i i
held_same R d i = rw (eq-eqb i i refl) (term (R i i) (d i))
  where
    term : (r x : ℤ) → r *ℤ (x *ℤ x) +ℤ r *ℤ (x *ℤ x) ≡ (x *ℤ r *ℤ x +ℤ x *ℤ r *ℤ x) +ℤ (pos 0 *ℤ (x *ℤ x) +ℤ pos 0 *ℤ (x *ℤ x))
    term r x = simp (zero-*ℤ, ring) (omega (arith, lin))

held_apart : (R : Matrix) (d : Vector) (i j : ℕ) → (j ≡ i → ⊥) → pos 0 ≤ℤ held R d i j
held_apart R d i j ne = rw (ne_eqb i j (λ q. ne (sym q))) (balance (d i) (R i j) (d j))

module _ (n : ℕ) (R : Matrix) (d : Vector) where
  -- the diagonal's part, and what balances the rest, by rows and by columns
  abbrev diagonal : ℤ
  diagonal = ∑ n (λ i. R i i *ℤ (d i *ℤ d i))

  abbrev by_rows : ℤ
  by_rows = ∑ n (λ i. ∑ n (λ j. beside R i j *ℤ (d i *ℤ d i)))

  abbrev by_columns : ℤ
  by_columns = ∑ n (λ i. ∑ n (λ j. beside R i j *ℤ (d j *ℤ d j)))

  whole : ∑ n (λ i. ∑ n (λ j. held R d i j)) ≡ (quad n R d +ℤ quad n R d) +ℤ (by_rows +ℤ by_columns)
  whole =
      let t : Matrix = λ i j. d i *ℤ R i j *ℤ d j in
      let p : Matrix = λ i j. beside R i j *ℤ (d i *ℤ d i) in
      let q : Matrix = λ i j. beside R i j *ℤ (d j *ℤ d j) in
      ∑∑-add n n (λ i j. t i j +ℤ t i j) (λ i j. p i j +ℤ q i j)
      ∙ ap (λ (z : ℤ). z +ℤ ∑ n (λ i. ∑ n (λ j. p i j +ℤ q i j))) (∑∑-add n n t t)
      ∙ ap (λ (z : ℤ). (quad n R d +ℤ quad n R d) +ℤ z) (∑∑-add n n p q)

  diagonal_le : (diagonal +ℤ diagonal) ≤ℤ ∑ n (λ i. ∑ n (λ j. held R d i j))
  diagonal_le =
      rw (← (∑-add n (λ i. R i i *ℤ (d i *ℤ d i)) (λ i. R i i *ℤ (d i *ℤ d i))))
      (∑-le n (λ i. R i i *ℤ (d i *ℤ d i) +ℤ R i i *ℤ (d i *ℤ d i)) (λ i. ∑ n (λ j. held R d i j))
      (λ i k. rw (held_same R d i) (∑-pick n (held R d i) i k (λ j l ne. held_apart R d i j ne))))

  rows_le : Dominant n R → by_rows ≤ℤ diagonal
  unfolding around
  rows_le h =
      ∑-le n (λ i. ∑ n (λ j. beside R i j *ℤ (d i *ℤ d i))) (λ i. R i i *ℤ (d i *ℤ d i))
      (λ i k.
      let out : ∑ n (λ j. beside R i j *ℤ (d i *ℤ d i)) ≡ around n R i *ℤ (d i *ℤ d i) = ∑-scaled n (beside R i) (d i *ℤ d i) in
      omega (
        arith,
        lin,
        *ℤ_comm (around n R i) (d i *ℤ d i),
        *ℤ-le (d i *ℤ d i) (around n R i) (R i i) (square_nonneg (d i)) (h i k),
        *ℤ_comm (d i *ℤ d i) (R i i),
      ))

  columns_are : Symmetric n R → by_columns ≡ by_rows
  columns_are s =
      ∑-swap n n (λ i j. beside R i j *ℤ (d j *ℤ d j))
      ∙ ∑∑-cong n n (λ j i. beside R i j *ℤ (d j *ℤ d j)) (λ j i. beside R j i *ℤ (d j *ℤ d j))
      (λ j i k l. ap (λ (z : ℤ). z *ℤ (d j *ℤ d j)) (beside_symmetric n R s i j l k))

  pub dominant_nonneg : Symmetric n R → Dominant n R → pos 0 ≤ℤ quad n R d
  dominant_nonneg s h = omega (arith, lin, whole, diagonal_le, rows_le h, columns_are s)

remainder_symmetric : (n : ℕ) (G L : Matrix) → Symmetric n G → Symmetric n (remainder n G L)
unfolding remainder
remainder_symmetric n G L s i j k l = rw (s i j k l) (simp *ℤ_comm)

pub slip_sound : SlipSound
unfolding remainder
slip_sound n G L s h d =
    omega (
      arith,
      lin,
      product_is (pos 1048576) (quad n G d),
      form_minus n (pos 1048576) G (λ i j. ∑ n (λ k. L k i *ℤ L k j)) d d,
      quad_gram n L d,
      ∑-nonneg n (λ k. row n L d k *ℤ row n L d k) (λ k _. square_nonneg (row n L d k)),
      dominant_nonneg n (remainder n G L) d (remainder_symmetric n G L s) h,
    )
