-- The cost and the gradient, as loops and sums of small numbers give them.
use Rattle.std.proofs.Common.{◌≡◌, ℕ, ◌+◌, ◌*◌, ◌^◌, ◌<◌, ◌≤◌, true, List, ℤ, pos, ◌+ℤ◌, ◌*ℤ◌, nat_abs, sym, ap, ◌∙◌, le_refl, mul-le-mul, arith, lit<, w64, SFits}
use Rattle.duality.specs.Lists.{places}
use Rattle.duality.specs.Sums.{Vector, ∑, row, column}
use Rattle.duality.specs.Problem.{cost}
use Rattle.duality.proofs.Sums.{∑-more}
use Rattle.duality.proofs.Sizes.{small_add, small_mul, small-∑}
use Rattle.duality.proofs.Costs.{cost_rows}
use Rattle.job.specs.Numbers.{problem_of}
use Rattle.job.specs.Points.{gradient}
use Rattle.duality.specs.Tests.{many_within}
use Rattle.job.specs.declared.numbers.Job.{Job}
use Rattle.terms.proofs.Bits.{back, fits, back_is, back_of, small_of}
use Rattle.terms.proofs.Reading.{c_small, many_small}
use Rattle.job.proofs.Reading.{along_small, across_small, gradient_small}

-- rope i's part of the cost
abbrev pub cost_part : Job → List ℤ → Vector
cost_part j z i = places z i *ℤ (row (problem_of j).ropes (problem_of j).G (places z) i +ℤ pos 2 *ℤ (problem_of j).c i)

module _ (j : Job) (z : List ℤ) (p : many_within (problem_of j).ropes 32768 z ≡ true) where
  small : (k : ℕ) → nat_abs (places z k) ≤ 32768
  small = many_small (problem_of j).ropes 32768 z p

  -- the sums along row i and down column i of G, as the next call takes them
  pub along_back : (i : ℕ) (r : ℤ) → r ≡ row (problem_of j).ropes (problem_of j).G (places z) i → back r ≡ row (problem_of j).ropes (problem_of j).G (places z) i
  along_back i r e = back_of (2 ^ 39) r _ e (along_small j (places z) i small) (lit< tt)

  pub across_back : (i : ℕ) (r : ℤ) → r ≡ column (problem_of j).ropes (problem_of j).G (places z) i → back r ≡ column (problem_of j).ropes (problem_of j).G (places z) i
  across_back i r e = back_of (2 ^ 39) r _ e (across_small j (places z) i small) (lit< tt)

  -- the gradient
  pub both_small : (i : ℕ) (x y : ℤ) → x ≡ row (problem_of j).ropes (problem_of j).G (places z) i → y ≡ column (problem_of j).ropes (problem_of j).G (places z) i → nat_abs (x +ℤ y) ≤ 2 ^ 40
  both_small i x y e f =
      rw (e, f) (small_add (2 ^ 39) (2 ^ 39) (row (problem_of j).ropes (problem_of j).G (places z) i) (column (problem_of j).ropes (problem_of j).G (places z) i)
      (along_small j (places z) i small) (across_small j (places z) i small))

  twice_small : (i : ℕ) (v : ℤ) → v ≡ (problem_of j).c i → nat_abs (pos 2 *ℤ v) ≤ 2 ^ 29
  twice_small i v e = rw e (small_mul 2 268435456 (pos 2) ((problem_of j).c i) (omega arith) (c_small j.terms i))

  pub twice_fits : (i : ℕ) (v : ℤ) → v ≡ (problem_of j).c i → SFits w64 (pos 2 *ℤ v)
  twice_fits i v e = fits (2 ^ 29) _ (twice_small i v e) (lit< tt)

  module _ (i : ℕ) (x y v : ℤ) (ex : x ≡ row (problem_of j).ropes (problem_of j).G (places z) i) (ey : y ≡ column (problem_of j).ropes (problem_of j).G (places z) i)
      (ev : v ≡ (problem_of j).c i) where
    sum_is : back (x +ℤ y) +ℤ back (pos 2 *ℤ v) ≡ gradient (problem_of j) (places z) i
    sum_is =
        let b : back (x +ℤ y) ≡ x +ℤ y = back_is (2 ^ 40) (x +ℤ y) (both_small i x y ex ey) (lit< tt) in
        let t : back (pos 2 *ℤ v) ≡ pos 2 *ℤ v = back_is (2 ^ 29) (pos 2 *ℤ v) (twice_small i v ev) (lit< tt) in
        cc

    pub gradient_fits : SFits w64 (back (x +ℤ y) +ℤ back (pos 2 *ℤ v))
    gradient_fits = fits (2 ^ 41) _ (small_of (2 ^ 41) _ _ sum_is (gradient_small j (places z) i small)) (lit< tt)

    pub gradient_is : back (back (x +ℤ y) +ℤ back (pos 2 *ℤ v)) ≡ gradient (problem_of j) (places z) i
    gradient_is = back_of (2 ^ 41) _ _ sum_is (gradient_small j (places z) i small) (lit< tt)

  -- the cost
  slope_small : (i : ℕ) → nat_abs (row (problem_of j).ropes (problem_of j).G (places z) i +ℤ pos 2 *ℤ (problem_of j).c i) ≤ 2 ^ 40
  slope_small i =
      let twice = small_mul 2 268435456 (pos 2) ((problem_of j).c i) (omega arith) (c_small j.terms i) in
      omega (
        arith,
        small_add (2 ^ 39) (2 * 268435456) (row (problem_of j).ropes (problem_of j).G (places z) i) (pos 2 *ℤ (problem_of j).c i) (along_small j (places z) i small) twice,
      )

  module _ (i : ℕ) (x v : ℤ) (ex : x ≡ row (problem_of j).ropes (problem_of j).G (places z) i) (ev : v ≡ (problem_of j).c i) where
    slope_is : x +ℤ back (pos 2 *ℤ v) ≡ row (problem_of j).ropes (problem_of j).G (places z) i +ℤ pos 2 *ℤ (problem_of j).c i
    slope_is = let t : back (pos 2 *ℤ v) ≡ pos 2 *ℤ v = back_is (2 ^ 29) (pos 2 *ℤ v) (twice_small i v ev) (lit< tt) in cc

    pub slope_fits : SFits w64 (x +ℤ back (pos 2 *ℤ v))
    slope_fits = fits (2 ^ 40) _ (small_of (2 ^ 40) _ _ slope_is (slope_small i)) (lit< tt)

    pub slope_back : back (x +ℤ back (pos 2 *ℤ v)) ≡ row (problem_of j).ropes (problem_of j).G (places z) i +ℤ pos 2 *ℤ (problem_of j).c i
    slope_back = back_of (2 ^ 40) _ _ slope_is (slope_small i) (lit< tt)

  pub item_back : (i : ℕ) → back (places z i) ≡ places z i
  item_back i = back_is 32768 _ (small i) (omega arith)

  part_small : (i : ℕ) → nat_abs (cost_part j z i) ≤ 2 ^ 55
  part_small i = small_mul 32768 (2 ^ 40) (places z i) (row (problem_of j).ropes (problem_of j).G (places z) i +ℤ pos 2 *ℤ (problem_of j).c i) (small i) (slope_small i)

  product_is : (i : ℕ) (s : ℤ) → s ≡ row (problem_of j).ropes (problem_of j).G (places z) i +ℤ pos 2 *ℤ (problem_of j).c i → back (places z i) *ℤ s ≡ cost_part j z i
  product_is i s e = let b = item_back i in cc

  pub product_fits : (i : ℕ) (s : ℤ) → s ≡ row (problem_of j).ropes (problem_of j).G (places z) i +ℤ pos 2 *ℤ (problem_of j).c i → SFits w64 (back (places z i) *ℤ s)
  product_fits i s e = fits (2 ^ 55) _ (small_of (2 ^ 55) _ _ (product_is i s e) (part_small i)) (lit< tt)

  -- the sum t so far, with rope i's part
  module _ (i : ℕ) (t s : ℤ) (l : i < (problem_of j).ropes) (et : t ≡ ∑ i (cost_part j z))
      (es : s ≡ row (problem_of j).ropes (problem_of j).G (places z) i +ℤ pos 2 *ℤ (problem_of j).c i) where
    next : t +ℤ back (back (places z i) *ℤ s) ≡ ∑ (i + 1) (cost_part j z)
    next =
        let b : back (back (places z i) *ℤ s) ≡ cost_part j z i = back_of (2 ^ 55) _ _ (product_is i s es) (part_small i) (lit< tt) in
        let m : ∑ (i + 1) (cost_part j z) ≡ ∑ i (cost_part j z) +ℤ cost_part j z i = ∑-more i (cost_part j z) in
        cc

    next_small : nat_abs (∑ (i + 1) (cost_part j z)) ≤ 2 ^ 60
    next_small =
        omega (
          arith,
          small-∑ (i + 1) (2 ^ 55) (cost_part j z) (λ k _. part_small k),
          mul-le-mul {n₁ = i + 1} {m₁ = 2 ^ 55} {n₂ = 16} {m₂ = 2 ^ 55} (omega (arith, j.terms.some.1)) (le_refl (2 ^ 55)),
        )

    pub total_fits : SFits w64 (t +ℤ back (back (places z i) *ℤ s))
    total_fits = fits (2 ^ 60) _ (small_of (2 ^ 60) _ _ next next_small) (lit< tt)

    pub cost_more : back (t +ℤ back (back (places z i) *ℤ s)) ≡ ∑ (i + 1) (cost_part j z)
    cost_more = back_of (2 ^ 60) _ _ next next_small (lit< tt)

  pub cost_all : (i : ℕ) (t : ℤ) → i ≡ (problem_of j).ropes → t ≡ ∑ i (cost_part j z) → t ≡ cost (problem_of j) (places z)
  cost_all i t e et = et ∙ ap (λ (n : ℕ). ∑ n (cost_part j z)) e ∙ sym (cost_rows (problem_of j) (places z))
