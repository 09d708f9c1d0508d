-- One turn of a sum over a stride.
use Rattle.std.proofs.Common.{◌≡◌, ℕ, ◌+◌, ◌*◌, ◌^◌, ◌<◌, ◌≤◌, List, length, ℤ, ◌+ℤ◌, ◌*ℤ◌, nat_abs, sym, ap, ◌∙◌, le_refl, mul-le-mul, arith, w64, SFits}
use Rattle.duality.specs.Lists.{places}
use Rattle.duality.specs.Sums.{dot}
use Rattle.duality.proofs.Sizes.{small_mul, small_dot}
use Rattle.duality.proofs.Sums.{∑-more}
use Rattle.job.specs.Strides.{strided, Reads}
use Rattle.terms.proofs.Bits.{back, fits, back_is, back_of, small_of}

module _ (xs : List ℤ) (start stride : ℕ) (z : List ℤ) (h : Reads xs start stride z) where
  part_small : (k : ℕ) → k ≤ length z → nat_abs (dot k (strided xs start stride) (places z)) ≤ 16 * (1048576 * 1073741824)
  part_small k l =
      omega (
        arith,
        small_dot k 1048576 1073741824 (strided xs start stride) (places z) (λ i _. h.xs_small (start + i * stride)) (λ i _. h.z_small i),
        mul-le-mul {n₁ = k} {m₁ = 1048576 * 1073741824} {n₂ = 16} {m₂ = 1048576 * 1073741824} (omega (arith, h.few)) (le_refl (1048576 * 1073741824)),
      )

  pub dot_small : nat_abs (dot (length z) (strided xs start stride) (places z)) ≤ 2 ^ 54
  dot_small = omega (arith, part_small (length z) (le_refl (length z)))

  product_back : (k : ℕ) → back (back (strided xs start stride k) *ℤ back (places z k)) ≡ strided xs start stride k *ℤ places z k
  product_back k =
      rw (back_is 1048576 (strided xs start stride k) (h.xs_small (start + k * stride)) (omega arith), back_is 1073741824 (places z k) (h.z_small k) (omega arith))
      (back_is (1048576 * 1073741824) _ (small_mul 1048576 1073741824 (strided xs start stride k) (places z k) (h.xs_small (start + k * stride)) (h.z_small k)) (omega arith))

  pub product_fits : (k : ℕ) → SFits w64 (back (strided xs start stride k) *ℤ back (places z k))
  product_fits k =
      rw (back_is 1048576 (strided xs start stride k) (h.xs_small (start + k * stride)) (omega arith), back_is 1073741824 (places z k) (h.z_small k) (omega arith))
      (fits (1048576 * 1073741824) _ (small_mul 1048576 1073741824 (strided xs start stride k) (places z k) (h.xs_small (start + k * stride)) (h.z_small k)) (omega arith))

  -- the sum s so far, with one product more
  module _ (k : ℕ) (s : ℤ) (l : k < length z) (e : s ≡ dot k (strided xs start stride) (places z)) where
    next : s +ℤ back (back (strided xs start stride k) *ℤ back (places z k)) ≡ dot (k + 1) (strided xs start stride) (places z)
    next =
        ap (λ (v : ℤ). v +ℤ back (back (strided xs start stride k) *ℤ back (places z k))) e
        ∙ ap (λ (v : ℤ). dot k (strided xs start stride) (places z) +ℤ v) (product_back k)
        ∙ sym (∑-more k (λ i. strided xs start stride i *ℤ places z i))

    next_small : nat_abs (dot (k + 1) (strided xs start stride) (places z)) ≤ 2 ^ 54
    next_small = omega (arith, part_small (k + 1) (omega arith))

    pub sum_fits : SFits w64 (s +ℤ back (back (strided xs start stride k) *ℤ back (places z k)))
    sum_fits = fits (2 ^ 54) _ (small_of (2 ^ 54) _ _ next next_small) (omega arith)

    pub dot_more : back (s +ℤ back (back (strided xs start stride k) *ℤ back (places z k))) ≡ dot (k + 1) (strided xs start stride) (places z)
    dot_more = back_of (2 ^ 54) _ _ next next_small (omega arith)
