-- Matrices that passed their tests, in a job's places.
use Rattle.std.proofs.Common.{◌≡◌, ℕ, ◌*◌, ◌≤◌, true, List, length, ℤ, mul-le-mul, arith}
use Rattle.std.proofs.lemmas.Bool.{and_parts, eqb-true}
use Rattle.duality.specs.Tests.{all_within}
use Rattle.job.specs.Numbers.{matrices}

module _ (n m : ℕ) (few_ropes : n ≤ 16) (few_rows : m ≤ 32) where
  pub square_fits : n * n ≤ 256
  square_fits = omega (arith, mul-le-mul {n₁ = n} {m₁ = n} {n₂ = 16} {m₂ = 16} few_ropes few_ropes)

  pub weights_fit : n * m ≤ 512
  weights_fit = omega (arith, mul-le-mul {n₁ = n} {m₁ = m} {n₂ = 16} {m₂ = 32} few_ropes few_rows)

  -- g and a as they were tested, xs and ys as they were placed
  pub record Placed (g a xs ys : List ℤ) : Type 0 where
    pub same_g : xs ≡ g
    pub same_a : ys ≡ a
    pub matrix : (length xs ≡ n * n) × (all_within 1048576 xs ≡ true)
    pub weights : (length ys ≡ n * m) × (all_within 1048576 ys ≡ true)

  pub placed_whole : (ropes rows : ℕ) (g a xs ys : List ℤ) → ropes ≡ n → rows ≡ m → matrices ropes rows g a ≡ true →
      (length g ≤ 256 → xs ≡ g) → (length a ≤ 512 → ys ≡ a) → Placed g a xs ys
  placed_whole ropes rows g a xs ys en em e whole_g whole_a =
      let p₃ = and_parts _ _ (rw (en, em) at e) in
      let p₂ = and_parts _ _ p₃.0 in
      let p₁ = and_parts _ _ p₂.0 in
      let g_long : length g ≡ n * n = eqb-true _ _ p₁.0 in
      let a_long : length a ≡ n * m = eqb-true _ _ p₁.1 in
      let eg : xs ≡ g = whole_g (omega (arith, square_fits)) in
      let ea : ys ≡ a = whole_a (omega (arith, weights_fit)) in
      record { same_g = eg; same_a = ea; matrix = rw eg (g_long, p₂.1); weights = rw ea (a_long, p₃.1) }
