-- One turn of a sum along a row of a matrix with small numbers.
use Rattle.std.proofs.Common.{◌≡◌, ℕ, ◌+◌, ◌*◌, ◌^◌, ◌<◌, ◌≤◌, List, length, ℤ, pos, ◌+ℤ◌, ◌*ℤ◌, nat_abs, Option, unwrap_or, sym, ap, ◌∙◌, le_refl, mul-le-mul, arith, w64, SFits}
use Rattle.duality.specs.Lists.{places}
use Rattle.duality.specs.Sums.{Vector, Matrix, dot, row, column}
use Rattle.duality.proofs.Sizes.{small_mul, small_dot}
use Rattle.duality.proofs.Sums.{∑-more, ∑-cong}
use Rattle.duality.proofs.Forms.{dot_comm}
use Rattle.table.specs.Grid.{Grid, matrix_of}
use Rattle.table.specs.Layers.{flipped}
use Rattle.table.proofs.Swaps.{flipped_place}
use Rattle.evaluate.specs.Sums.{Summable}
use Rattle.terms.proofs.Bits.{back, back_is, back_of}
use Rattle.terms.proofs.Bits as bits

-- each number keeps to the limit of a place
abbrev pub Near : Matrix → Type 0
Near M = (i j : ℕ) → nat_abs (M i j) ≤ 1048576

-- a sum of up to most products
pub sum_small : (n most p limit : ℕ) (w z : Vector) → n ≤ most → ((k : ℕ) → nat_abs (w k) ≤ p) → ((k : ℕ) → nat_abs (z k) ≤ limit) → nat_abs (dot n w z) ≤ most * (p * limit)
sum_small n most p limit w z h hw hz =
    omega (
      arith,
      small_dot n p limit w z (λ k _. hw k) (λ k _. hz k),
      mul-le-mul {n₁ = n} {m₁ = p * limit} {n₂ = most} {m₂ = p * limit} h (le_refl (p * limit)),
    )

module _ (M : Matrix) (near : Near M) (z : List ℤ) (h : Summable z) (i : ℕ) where
  part_small : (k : ℕ) → k ≤ length z → nat_abs (row k M (places z) i) ≤ 32 * (1048576 * 1073741824)
  part_small k l = sum_small k 32 1048576 1073741824 (M i) (places z) (omega (arith, h.few)) (near i) h.near

  pub row_back : (r : ℤ) → r ≡ row (length z) M (places z) i → back r ≡ row (length z) M (places z) i
  row_back r e = back_of (32 * (1048576 * 1073741824)) r _ e (part_small (length z) (le_refl (length z))) (omega arith)

  -- one turn
  module _ (k : ℕ) (s x : ℤ) (l : k < length z) (es : s ≡ row k M (places z) i) (ex : x ≡ M i k) where
    number_back : back x ≡ M i k
    number_back = back_of 1048576 x _ ex (near i k) (omega arith)

    point_back : back (places z k) ≡ places z k
    point_back = back_is 1073741824 _ (h.near k) (omega arith)

    row_so_far : nat_abs (row k M (places z) i) ≤ 2 ^ 61
    row_so_far = omega (arith, part_small k (omega arith))

    product_small : nat_abs (M i k *ℤ places z k) ≤ 2 ^ 61
    product_small = omega (arith, small_mul 1048576 1073741824 (M i k) (places z k) (near i k) (h.near k))

    pub product_fits : SFits w64 (back x *ℤ back (places z k))
    product_fits = bits.product_fits s (back x) (back (places z k)) _ (M i k) (places z k) es number_back point_back row_so_far product_small

    pub sum_fits : SFits w64 (s +ℤ back (back x *ℤ back (places z k)))
    sum_fits = bits.sum_fits s (back x) (back (places z k)) _ (M i k) (places z k) es number_back point_back row_so_far product_small

    pub row_more : back (s +ℤ back (back x *ℤ back (places z k))) ≡ row (k + 1) M (places z) i
    row_more =
        bits.sum_more s (back x) (back (places z k)) _ (M i k) (places z k) es number_back point_back row_so_far product_small
        ∙ sym (∑-more k (λ j. M i j *ℤ places z j))

-- down a column as along a row of the table with rows and columns swapped
pub column_is : (g : Grid) (y : List ℤ) (n j : ℕ) → row n (matrix_of (flipped g)) (places y) j ≡ column n (matrix_of g) (places y) j
column_is g y n j =
    ∑-cong n (λ i. matrix_of (flipped g) j i *ℤ places y i) (λ i. matrix_of g i j *ℤ places y i)
    (λ i _. ap (λ (o : Option ℤ). unwrap_or o (pos 0) *ℤ places y i) (flipped_place g j i))
    ∙ dot_comm n (λ i. matrix_of g i j) (places y)
