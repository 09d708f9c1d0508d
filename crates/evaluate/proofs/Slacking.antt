-- The parts of a pair's slack and of a refutation: how small they are, and that the code's numbers are they.
use Rattle.std.proofs.Common.{◌≡◌, ℕ, ◌+◌, ◌*◌, ◌^◌, ◌≤◌, true, List, length, ℤ, pos, ◌+ℤ◌, ◌-ℤ◌, ◌*ℤ◌, nat_abs, None, ap, ◌∙◌, arith}
use Rattle.terms.specs.Numbers.{ropes_of, rows_of}
use Rattle.duality.specs.Lists.{places}
use Rattle.duality.specs.Sums.{Vector, ∑, row, column}
use Rattle.duality.specs.Floor.{residual, furthest}
use Rattle.duality.specs.Refutation.{highest, lowest, most_allowed, least_needed}
use Rattle.duality.proofs.Sizes.{small_add, small_sub, small_mul, small_max, small_min}
use Rattle.table.specs.Grid.{Grid, matrix_of}
use Rattle.table.proofs.Bounds.{matrix_near}
use Rattle.evaluate.specs.Stated.{problem_of}
use Rattle.duality.specs.Tests.{many_within}
use Rattle.terms.specs.declared.numbers.Terms.{Terms}
use Rattle.terms.proofs.Bits.{back, back_of}
use Rattle.evaluate.proofs.Summing.{sum_small}
use Rattle.terms.proofs.Reading.{c_small, l_small, u_small, lo_small, hi_small, many_long, many_small}

furthest_small : (w x low high : ℤ) → nat_abs w ≤ 2 ^ 51 → nat_abs x ≤ 2 ^ 54 → nat_abs low ≤ 536870912 → nat_abs high ≤ 536870912 → nat_abs (furthest w x low high) ≤ 2 ^ 110
furthest_small w x low high hw hx hl hh =
    let a = small_mul (2 ^ 51) (2 ^ 54 + 536870912) w (x -ℤ low) hw (small_sub (2 ^ 54) 536870912 x low hx hl) in
    let b = small_mul (2 ^ 51) (2 ^ 54 + 536870912) w (x -ℤ high) hw (small_sub (2 ^ 54) 536870912 x high hx hh) in
    omega (arith, small_max (2 ^ 51 * (2 ^ 54 + 536870912)) (w *ℤ (x -ℤ low)) (w *ℤ (x -ℤ high)) a b)

module _ (a : Grid) (t : Terms) (p y : List ℤ) (hp : many_within (ropes_of t) 32768 p ≡ true) (hy : many_within (rows_of t) 16777216 y ≡ true) where
  point_small : (k : ℕ) → nat_abs (places p k) ≤ 32768
  point_small = many_small (ropes_of t) 32768 p hp

  -- rows of either table
  pub sum_is : (i : ℕ) (r : ℤ) → r ≡ row (length p) (matrix_of a) (places p) i → r ≡ row (ropes_of t) (matrix_of a) (places p) i
  sum_is i r e = e ∙ ap (λ (n : ℕ). row n (matrix_of a) (places p) i) (many_long (ropes_of t) 32768 p hp)

  pub along_small : (i : ℕ) → nat_abs (row (ropes_of t) (matrix_of a) (places p) i) ≤ 2 ^ 39
  along_small i = sum_small (ropes_of t) 16 1048576 32768 (matrix_of a i) (places p) t.some.1 (matrix_near a i) point_small

  pub along_back : (i : ℕ) (r : ℤ) → r ≡ row (length p) (matrix_of a) (places p) i → back r ≡ row (ropes_of t) (matrix_of a) (places p) i
  along_back i r e = back_of (2 ^ 39) r _ (sum_is i r e) (along_small i) (omega arith)

  abbrev pub row_part : Vector
  row_part i = furthest (places y i) (row (ropes_of t) (matrix_of a) (places p) i) (places t.lo.items i) (places t.hi.items i)

  pub row_part_small : (i : ℕ) → nat_abs (row_part i) ≤ 2 ^ 110
  row_part_small i =
      furthest_small (places y i) (row (ropes_of t) (matrix_of a) (places p) i) (places t.lo.items i) (places t.hi.items i)
      (omega (arith, many_small (rows_of t) 16777216 y hy i)) (omega (arith, along_small i)) (lo_small t i) (hi_small t i)

  pub row_part_is : (i : ℕ) (w x low high r : ℤ) → w ≡ places y i → x ≡ row (ropes_of t) (matrix_of a) (places p) i → low ≡ places t.lo.items i →
      high ≡ places t.hi.items i → r ≡ furthest w x low high → r ≡ row_part i
  row_part_is i w x low high r ew ex el eh er = cc

-- a table of nothing, where the table does not matter
abbrev pub blank : Grid
blank = record { rows = pos 0; columns = pos 0; cell = λ _ _. None }

-- what multipliers make of a column
module _ (a : Grid) (t : Terms) (y : List ℤ) (hy : many_within (rows_of t) 16777216 y ≡ true) where
  weight_small : (k : ℕ) → nat_abs (places y k) ≤ 16777216
  weight_small = many_small (rows_of t) 16777216 y hy

  pub weights_small : (j : ℕ) → nat_abs (column (rows_of t) (matrix_of a) (places y) j) ≤ 2 ^ 49
  weights_small j = sum_small (rows_of t) 32 16777216 1048576 (places y) (λ i. matrix_of a i j) t.few weight_small (λ i. matrix_near a i j)

  pub weights_back : (j : ℕ) (r : ℤ) → r ≡ column (length y) (matrix_of a) (places y) j → back r ≡ column (rows_of t) (matrix_of a) (places y) j
  weights_back j r e =
      back_of (2 ^ 49) r _ (e ∙ ap (λ (n : ℕ). column n (matrix_of a) (places y) j) (many_long (rows_of t) 16777216 y hy)) (weights_small j) (omega arith)

  pub weight_back : (i : ℕ) (r : ℤ) → r ≡ places y i → back r ≡ places y i
  weight_back i r e = back_of 16777216 r _ e (weight_small i) (omega arith)

  abbrev pub most_part : Vector
  most_part j = highest (column (rows_of t) (matrix_of a) (places y) j) (places t.l.items j) (places t.u.items j)

  pub most_part_small : (j : ℕ) → nat_abs (most_part j) ≤ 2 ^ 110
  most_part_small j =
      let m = column (rows_of t) (matrix_of a) (places y) j in
      omega (
        arith,
        small_max (2 ^ 49 * 32768) (m *ℤ places t.l.items j) (m *ℤ places t.u.items j)
            (small_mul (2 ^ 49) 32768 m (places t.l.items j) (weights_small j) (l_small t j))
            (small_mul (2 ^ 49) 32768 m (places t.u.items j) (weights_small j) (u_small t j)),
      )

  pub most_part_is : (j : ℕ) (w low high r : ℤ) → w ≡ column (rows_of t) (matrix_of a) (places y) j → low ≡ places t.l.items j → high ≡ places t.u.items j →
      r ≡ highest w low high → r ≡ most_part j
  most_part_is j w low high r ew el eh er = cc

  abbrev pub least_part : Vector
  least_part i = lowest (places y i) (places t.lo.items i) (places t.hi.items i)

  pub least_part_small : (i : ℕ) → nat_abs (least_part i) ≤ 2 ^ 110
  least_part_small i =
      omega (
        arith,
        small_min (16777216 * 536870912) (places y i *ℤ places t.lo.items i) (places y i *ℤ places t.hi.items i)
            (small_mul 16777216 536870912 (places y i) (places t.lo.items i) (weight_small i) (lo_small t i))
            (small_mul 16777216 536870912 (places y i) (places t.hi.items i) (weight_small i) (hi_small t i)),
      )

  pub least_part_is : (i : ℕ) (w low high r : ℤ) → w ≡ places y i → low ≡ places t.lo.items i → high ≡ places t.hi.items i → r ≡ lowest w low high → r ≡ least_part i
  least_part_is i w low high r ew el eh er = cc

pub most_all : (g a : Grid) (t : Terms) (y : List ℤ) (hy : many_within (rows_of t) 16777216 y ≡ true) (j : ℕ) (s : ℤ) → j ≡ ropes_of t → s ≡ ∑ j (most_part a t y hy) →
    s ≡ most_allowed (problem_of g a t) (places y)
unfolding most_allowed
most_all g a t y hy j s e es = es ∙ ap (λ (n : ℕ). ∑ n (most_part a t y hy)) e

pub least_all : (g a : Grid) (t : Terms) (y : List ℤ) (hy : many_within (rows_of t) 16777216 y ≡ true) (i : ℕ) (s : ℤ) → i ≡ rows_of t → s ≡ ∑ i (least_part a t y hy) →
    s ≡ least_needed (problem_of g a t) (places y)
unfolding least_needed
least_all g a t y hy i s e es = es ∙ ap (λ (n : ℕ). ∑ n (least_part a t y hy)) e

module _ (g a : Grid) (t : Terms) (p y : List ℤ) (hp : many_within (ropes_of t) 32768 p ≡ true) (hy : many_within (rows_of t) 16777216 y ≡ true) where
  pub residual_small : (j : ℕ) → nat_abs (residual (problem_of g a t) (places p) (places y) j) ≤ 2 ^ 50
  unfolding residual
  residual_small j =
      let x = row (ropes_of t) (matrix_of g) (places p) j in
      let v = places t.c.items j in
      let w = column (rows_of t) (matrix_of a) (places y) j in
      let s = small_mul 256 (2 ^ 39 + 268435456) (pos 256) (x +ℤ v) (omega arith) (small_add (2 ^ 39) 268435456 x v (along_small g t p y hp hy j) (c_small t j)) in
      omega (arith, small_sub (256 * (2 ^ 39 + 268435456)) (2 ^ 49) (pos 256 *ℤ (x +ℤ v)) w s (weights_small a t y hy j))

  pub residual_is : (j : ℕ) (x v w r : ℤ) → x ≡ row (ropes_of t) (matrix_of g) (places p) j → v ≡ places t.c.items j →
      w ≡ column (rows_of t) (matrix_of a) (places y) j → r ≡ pos 256 *ℤ (x +ℤ v) -ℤ w → r ≡ residual (problem_of g a t) (places p) (places y) j
  unfolding residual
  residual_is j x v w r ex ev ew er = cc

  pub residual_back : (j : ℕ) (r : ℤ) → r ≡ residual (problem_of g a t) (places p) (places y) j → back r ≡ residual (problem_of g a t) (places p) (places y) j
  residual_back j r e = back_of (2 ^ 50) r _ e (residual_small j) (omega arith)

  abbrev pub rope_part : Vector
  rope_part j = furthest (residual (problem_of g a t) (places p) (places y) j) (places p j) (places t.l.items j) (places t.u.items j)

  pub rope_part_small : (j : ℕ) → nat_abs (rope_part j) ≤ 2 ^ 110
  rope_part_small j =
      furthest_small (residual (problem_of g a t) (places p) (places y) j) (places p j) (places t.l.items j) (places t.u.items j)
      (omega (arith, residual_small j)) (omega (arith, many_small (ropes_of t) 32768 p hp j)) (omega (arith, l_small t j)) (omega (arith, u_small t j))

  pub rope_part_is : (j : ℕ) (w x low high r : ℤ) → w ≡ residual (problem_of g a t) (places p) (places y) j → x ≡ places p j → low ≡ places t.l.items j →
      high ≡ places t.u.items j → r ≡ furthest w x low high → r ≡ rope_part j
  rope_part_is j w x low high r ew ex el eh er = cc

  pub point_back : (k : ℕ) (r : ℤ) → r ≡ places p k → back r ≡ places p k
  point_back k r e = back_of 32768 r _ e (many_small (ropes_of t) 32768 p hp k) (omega arith)
