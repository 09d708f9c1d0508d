-- The cost, as a loop over the rows of G adds it up.
use Rattle.std.proofs.Common.{◌≡◌, ℕ, ◌+◌, ◌*◌, ◌^◌, ◌<◌, ◌≤◌, true, List, length, ℤ, pos, ◌+ℤ◌, ◌*ℤ◌, nat_abs, sym, ap, ◌∙◌, le_refl, mul-le-mul, arith, w64, SFits}
use Rattle.terms.specs.Numbers.{ropes_of}
use Rattle.duality.specs.Lists.{places}
use Rattle.duality.specs.Sums.{Vector, Matrix, ∑, row}
use Rattle.duality.specs.Problem.{cost}
use Rattle.duality.proofs.Sums.{∑-more}
use Rattle.duality.proofs.Sizes.{small_add, small_mul, small-∑}
use Rattle.duality.proofs.Costs.{cost_rows}
use Rattle.table.specs.Grid.{Grid, matrix_of}
use Rattle.evaluate.specs.Stated.{problem_of}
use Rattle.duality.specs.Tests.{many_within}
use Rattle.terms.specs.declared.numbers.Terms.{Terms}
use Rattle.terms.proofs.Bits.{back, back_is, back_of}
use Rattle.terms.proofs.Bits as bits
use Rattle.evaluate.proofs.Summing.{Near, sum_small}
use Rattle.terms.proofs.Reading.{c_small, c_item, many_long, many_small}

-- place i of G z + 2 c
abbrev pub steep : Matrix → Terms → List ℤ → Vector
steep M t z i = row (length z) M (places z) i +ℤ pos 2 *ℤ places t.c.items i

-- rope i's part of the cost
abbrev pub cost_part : Matrix → Terms → List ℤ → Vector
cost_part M t z i = places z i *ℤ steep M t z i

module _ (M : Matrix) (near : Near M) (t : Terms) (z : List ℤ) (p : many_within (ropes_of t) 32768 z ≡ true) where
  small : (k : ℕ) → nat_abs (places z k) ≤ 32768
  small = many_small (ropes_of t) 32768 z p

  along_small : (i : ℕ) → nat_abs (row (length z) M (places z) i) ≤ 2 ^ 39
  along_small i = sum_small (length z) 16 1048576 32768 (M i) (places z) (omega (arith, many_long (ropes_of t) 32768 z p, t.some.1)) (near i) small

  along_back : (i : ℕ) (r : ℤ) → r ≡ row (length z) M (places z) i → back r ≡ row (length z) M (places z) i
  along_back i r e = back_of (2 ^ 39) r _ e (along_small i) (omega arith)

  steep_small : (i : ℕ) → nat_abs (steep M t z i) ≤ 2 ^ 40
  steep_small i =
      let twice = small_mul 2 268435456 (pos 2) (places t.c.items i) (omega arith) (c_small t i) in
      omega (arith, small_add (2 ^ 39) (2 * 268435456) (row (length z) M (places z) i) (pos 2 *ℤ places t.c.items i) (along_small i) twice)

  place_back : (i : ℕ) → back (places z i) ≡ places z i
  place_back i = back_is 32768 _ (small i) (omega arith)

  part_small : (i : ℕ) → nat_abs (cost_part M t z i) ≤ 2 ^ 55
  part_small i = small_mul 32768 (2 ^ 40) (places z i) (steep M t z i) (small i) (steep_small i)

  total_small : (i : ℕ) → i < length z → nat_abs (∑ i (cost_part M t z)) ≤ 2 ^ 61
  total_small i l =
      omega (
        arith,
        small-∑ i (2 ^ 55) (cost_part M t z) (λ k _. part_small k),
        mul-le-mul {n₁ = i} {m₁ = 2 ^ 55} {n₂ = 16} {m₂ = 2 ^ 55} (omega (arith, many_long (ropes_of t) 32768 z p, t.some.1)) (le_refl (2 ^ 55)),
      )

  -- one turn: the row r of G z and the price v are read
  module _ (i : ℕ) (l : i < length z) (r : ℤ) (prices : List ℤ) (er : r ≡ row (length z) M (places z) i) (ev : prices ≡ t.c.items) where
    abbrev v : ℤ
    v = places prices i

    price_back : back v ≡ places t.c.items i
    price_back = c_item t i prices ev

    twice_small : nat_abs (pos 2 *ℤ back v) ≤ 2 ^ 29
    twice_small = rw price_back (small_mul 2 268435456 (pos 2) (places t.c.items i) (omega arith) (c_small t i))

    pub twice_fits : SFits w64 (pos 2 *ℤ back v)
    twice_fits = bits.fits (2 ^ 29) _ twice_small (omega arith)

    slope_is : back r +ℤ back (pos 2 *ℤ back v) ≡ steep M t z i
    slope_is =
        let x : back r ≡ row (length z) M (places z) i = along_back i r er in
        let y : back v ≡ places t.c.items i = price_back in
        let d : back (pos 2 *ℤ back v) ≡ pos 2 *ℤ back v = back_is (2 ^ 29) _ twice_small (omega arith) in
        cc

    pub slope_fits : SFits w64 (back r +ℤ back (pos 2 *ℤ back v))
    slope_fits = rw slope_is (bits.fits (2 ^ 40) _ (steep_small i) (omega arith))

    slope_back : back (back r +ℤ back (pos 2 *ℤ back v)) ≡ steep M t z i
    slope_back = back_of (2 ^ 40) _ _ slope_is (steep_small i) (omega arith)

    -- s is the sum so far
    module _ (s : ℤ) (es : s ≡ ∑ i (cost_part M t z)) where
      part_fits : nat_abs (cost_part M t z i) ≤ 2 ^ 61
      part_fits = omega (arith, part_small i)

      pub product_fits : SFits w64 (back (places z i) *ℤ back (back r +ℤ back (pos 2 *ℤ back v)))
      product_fits = bits.product_fits s (back (places z i)) (back (back r +ℤ back (pos 2 *ℤ back v))) _ (places z i) (steep M t z i) es (place_back i) slope_back (total_small i l) part_fits

      pub sum_fits : SFits w64 (s +ℤ back (back (places z i) *ℤ back (back r +ℤ back (pos 2 *ℤ back v))))
      sum_fits = bits.sum_fits s (back (places z i)) (back (back r +ℤ back (pos 2 *ℤ back v))) _ (places z i) (steep M t z i) es (place_back i) slope_back (total_small i l) part_fits

      pub cost_more : back (s +ℤ back (back (places z i) *ℤ back (back r +ℤ back (pos 2 *ℤ back v)))) ≡ ∑ (i + 1) (cost_part M t z)
      cost_more =
          bits.sum_more s (back (places z i)) (back (back r +ℤ back (pos 2 *ℤ back v))) _ (places z i) (steep M t z i) es (place_back i) slope_back (total_small i l) part_fits
          ∙ sym (∑-more i (cost_part M t z))

pub cost_all : (g a : Grid) (t : Terms) (z : List ℤ) (i : ℕ) (s : ℤ) → length z ≡ ropes_of t → i ≡ ropes_of t → s ≡ ∑ i (cost_part (matrix_of g) t z) →
    s ≡ cost (problem_of g a t) (places z)
cost_all g a t z i s long e es =
    es
    ∙ ap (λ (n : ℕ). ∑ n (cost_part (matrix_of g) t z)) e
    ∙ ap (λ (n : ℕ). ∑ (ropes_of t) (λ k. places z k *ℤ (row n (matrix_of g) (places z) k +ℤ pos 2 *ℤ places t.c.items k))) long
    ∙ sym (cost_rows (problem_of g a t) (places z))
