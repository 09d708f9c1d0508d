-- One pass over the rows: the ticks outside once a rope has moved.
use Rattle.std.proofs.Common.{◌≡◌, ℕ, ◌+◌, ◌*◌, ◌^◌, ◌≤◌, ℤ, pos, ◌+ℤ◌, ◌-ℤ◌, ◌*ℤ◌, nat_abs, ap, ◌∙◌, le_refl, mul-le-mul, arith, lit<, w64, SFits}
use Rattle.std.specs.Int.{int_max}
use Rattle.std.proofs.lemmas.Int.{to_z-of_z}
use Rattle.duality.specs.Lists.{places}
use Rattle.duality.specs.Sums.{Vector, ∑}
use Rattle.duality.proofs.Sums.{∑-more}
use Rattle.duality.proofs.Sizes.{small_add, small_sub, small_mul, small-∑}
use Rattle.job.specs.Numbers.{problem_of}
use Rattle.terms.specs.Ticks.{excess, Near}
use Rattle.job.specs.declared.numbers.Job.{Job}
use Rattle.terms.proofs.Bits.{back, fits, back_is, back_of, small_of}
use Rattle.job.proofs.Outside.{excess_small}
use Rattle.job.proofs.Reading.{a_small}
use Rattle.terms.proofs.Reading.{lo_small, hi_small}
use Rattle.walk.proofs.Raising.{product_fits, raised_fits, raised_is}
use Rattle.walk.specs.Running.{SmallSums, outside_after}
use Rattle.walk.specs.declared.sums.RowSums.{RowSums}

-- the larger of two differences and 0
pub excess_is : (low high s m r : ℤ) → Near low high s → SFits w64 m → SFits w64 r →
    m ≡ int_max (back (back low -ℤ back s)) (back (back s -ℤ back high)) → r ≡ int_max (pos 0) (back m) → back r ≡ excess low high s
unfolding excess
excess_is low high s m r near fm fr em er =
    let fl : SFits w64 low = fits _ low near.low_near (omega arith) in
    let fh : SFits w64 high = fits _ high near.high_near (omega arith) in
    let fs : SFits w64 s = fits _ s near.sum_near (omega arith) in
    let fu : SFits w64 (low -ℤ s) = fits _ (low -ℤ s) (small_sub 536870912 (2 ^ 54) low s near.low_near near.sum_near) (omega arith) in
    let fa : SFits w64 (s -ℤ high) = fits _ (s -ℤ high) (small_sub (2 ^ 54) 536870912 s high near.sum_near near.high_near) (omega arith) in
    let e : m ≡ int_max (low -ℤ s) (s -ℤ high) = simp to_z-of_z at em in
    let d : r ≡ int_max (pos 0) m = simp to_z-of_z at er in
    simp to_z-of_z (d ∙ ap (int_max (pos 0)) e)

-- row i's part of the ticks outside once rope k has moved by d
abbrev pub ticks : Job → RowSums → ℕ → ℤ → Vector
ticks j s k d i = excess ((problem_of j).lo i) ((problem_of j).hi i) (places s.sums.items i +ℤ (problem_of j).A i k *ℤ d)

module _ (j : Job) (s : RowSums) (k : ℕ) (d : ℤ) (t : SmallSums (problem_of j) s) (hd : nat_abs d ≤ 16384) where
  moved_small : (i : ℕ) → nat_abs (places s.sums.items i +ℤ (problem_of j).A i k *ℤ d) ≤ 2 ^ 40
  moved_small i =
      omega (
        arith,
        small_add (2 ^ 39) (2 ^ 34) (places s.sums.items i) ((problem_of j).A i k *ℤ d) (t.1 i)
            (small_mul 1048576 16384 ((problem_of j).A i k) d (a_small j (k * (problem_of j).rows + i)) hd),
      )

  -- row i's sum x and its weight w, as they are read
  module _ (i : ℕ) (x w : ℤ) (ex : x ≡ places s.sums.items i) (ew : w ≡ (problem_of j).A i k) where
    sum_in : nat_abs x ≤ 2 ^ 41
    sum_in = rw ex (omega (arith, t.1 i))

    weight_in : nat_abs w ≤ 2097152
    weight_in = rw ew (omega (arith, a_small j (k * (problem_of j).rows + i)))

    pub weighed_fits : SFits w64 (back w *ℤ back d)
    weighed_fits = product_fits x w d sum_in weight_in hd

    pub moved_fits : SFits w64 (back x +ℤ back (back w *ℤ back d))
    moved_fits = raised_fits x w d sum_in weight_in hd

    pub moved_is : back (back x +ℤ back (back w *ℤ back d)) ≡ places s.sums.items i +ℤ (problem_of j).A i k *ℤ d
    moved_is = raised_is x w d sum_in weight_in hd ∙ cc

  -- so near that a row's ticks are exact
  pub moved_near : (i : ℕ) (low high y : ℤ) → low ≡ (problem_of j).lo i → high ≡ (problem_of j).hi i → y ≡ places s.sums.items i +ℤ (problem_of j).A i k *ℤ d →
      Near low high y
  moved_near i low high y el eh ey =
      record {
        low_near = small_of 536870912 _ _ el (lo_small j.terms i);
        high_near = small_of 536870912 _ _ eh (hi_small j.terms i);
        sum_near = small_of (2 ^ 54) _ _ ey (omega (arith, moved_small i));
      }

  pub ticks_are : (i : ℕ) (low high y r : ℤ) → low ≡ (problem_of j).lo i → high ≡ (problem_of j).hi i →
      y ≡ places s.sums.items i +ℤ (problem_of j).A i k *ℤ d → r ≡ excess low high y → r ≡ ticks j s k d i
  ticks_are i low high y r el eh ey er = cc

  ticks_small : (i : ℕ) → nat_abs (ticks j s k d i) ≤ 2 ^ 41
  ticks_small i =
      omega (
        arith,
        excess_small ((problem_of j).lo i) ((problem_of j).hi i) (places s.sums.items i +ℤ (problem_of j).A i k *ℤ d) 536870912 (2 ^ 40)
            (lo_small j.terms i) (hi_small j.terms i) (moved_small i),
      )

  total_small : (i : ℕ) → i ≤ (problem_of j).rows → nat_abs (∑ i (ticks j s k d)) ≤ 2 ^ 46
  total_small i l =
      omega (
        arith,
        small-∑ i (2 ^ 41) (ticks j s k d) (λ n _. ticks_small n),
        mul-le-mul {n₁ = i} {m₁ = 2 ^ 41} {n₂ = 32} {m₂ = 2 ^ 41} (omega (arith, j.terms.few)) (le_refl (2 ^ 41)),
      )

  pub turn_small : (i : ℕ) (total r : ℤ) → i ≤ (problem_of j).rows → total ≡ ∑ i (ticks j s k d) → r ≡ ticks j s k d i → nat_abs (total +ℤ back r) ≤ 2 ^ 47
  turn_small i total r l et er =
      let b : back r ≡ ticks j s k d i = back_of (2 ^ 41) r _ er (ticks_small i) (lit< tt) in
      rw (et, b) (omega (arith, small_add (2 ^ 46) (2 ^ 41) (∑ i (ticks j s k d)) (ticks j s k d i) (total_small i l) (ticks_small i)))

  pub ticks_more : (i : ℕ) (total r : ℤ) → i ≤ (problem_of j).rows → total ≡ ∑ i (ticks j s k d) → r ≡ ticks j s k d i → back (total +ℤ back r) ≡ ∑ (i + 1) (ticks j s k d)
  ticks_more i total r l et er =
      let b : back r ≡ ticks j s k d i = back_of (2 ^ 41) r _ er (ticks_small i) (lit< tt) in
      let m : ∑ (i + 1) (ticks j s k d) ≡ ∑ i (ticks j s k d) +ℤ ticks j s k d i = ∑-more i (ticks j s k d) in
      let e : total +ℤ back r ≡ ∑ (i + 1) (ticks j s k d) = cc in
      back_is (2 ^ 47) (total +ℤ back r) (turn_small i total r l et er) (lit< tt) ∙ e

  pub ticks_all : (i : ℕ) (total : ℤ) → i ≡ (problem_of j).rows → total ≡ ∑ i (ticks j s k d) → total ≡ outside_after (problem_of j) s k d
  unfolding outside_after
  ticks_all i total ei et = et ∙ ap (λ (n : ℕ). ∑ n (ticks j s k d)) ei

  pub after_small : nat_abs (outside_after (problem_of j) s k d) ≤ 2 ^ 46
  unfolding outside_after
  after_small = total_small (problem_of j).rows (le_refl (problem_of j).rows)
