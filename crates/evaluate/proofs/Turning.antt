-- One turn of each loop that adds up parts: of a slack, of what multipliers need, of what they are allowed. What the turn reads is what its part is made of.
use Rattle.std.proofs.Common.{◌≡◌, ℕ, ◌+◌, ◌^◌, ◌<◌, ◌≤◌, true, List, length, ℤ, ◌+ℤ◌, nat_abs, refl, ap, arith, SFits}
use Rattle.terms.specs.Numbers.{ropes_of, rows_of}
use mir.Syntax.{w128}
use Rattle.duality.specs.Lists.{places}
use Rattle.duality.specs.Sums.{Vector, ∑, row, column}
use Rattle.duality.specs.Floor.{residual, furthest}
use Rattle.duality.specs.Refutation.{highest, lowest}
use Rattle.duality.specs.Tests.{many_within}
use Rattle.table.specs.Grid.{Grid, matrix_of}
use Rattle.terms.specs.declared.numbers.Terms.{Terms}
use Rattle.evaluate.specs.Stated.{problem_of}
use Rattle.terms.proofs.Bits.{back}
use Rattle.terms.proofs.Reading.{many_long, many_small, lo_small, hi_small, l_small, u_small, lo_item, hi_item, l_item, u_item}
use Rattle.evaluate.proofs.Widening.{wide, turn_fits, turn_more}
use Rattle.evaluate.proofs.Slacking.{
  blank,
  along_small,
  along_back,
  weight_back,
  weights_back,
  row_part,
  row_part_small,
  row_part_is,
  most_part,
  most_part_small,
  most_part_is,
  least_part,
  least_part_small,
  least_part_is,
  residual_back,
  point_back,
  rope_part,
  rope_part_small,
  rope_part_is,
}

-- the sum with one part more fits, and is that of the parts so far
pub record Turn (f : Vector) (i : ℕ) (s r : ℤ) : Type 0 where
  pub fits : SFits w128 (s +ℤ wide r)
  pub more : wide (s +ℤ wide r) ≡ ∑ (i + 1) f

turn : (f : Vector) (small : (k : ℕ) → nat_abs (f k) ≤ 2 ^ 110) (i : ℕ) (s r : ℤ) → i ≤ 32 → s ≡ ∑ i f → r ≡ f i → Turn f i s r
turn f small i s r l es er = record { fits = turn_fits f small i s r l es er; more = turn_more f small i s r l es er }

-- what a turn reads is small enough for `furthest`
pub record Near (x low high : ℤ) : Type 0 where
  pub x_near : nat_abs (back x) ≤ 2 ^ 54
  pub low_near : nat_abs (back low) ≤ 536870912
  pub high_near : nat_abs (back high) ≤ 536870912

-- a row's part of the slack
module _ (a : Grid) (t : Terms) (p y : List ℤ) (hp : many_within (ropes_of t) 32768 p ≡ true) (hy : many_within (rows_of t) 16777216 y ≡ true) (i : ℕ) (l : i < length y)
    (x : ℤ) (lows highs : List ℤ) (ex : x ≡ row (length p) (matrix_of a) (places p) i) (el : lows ≡ t.lo.items) (eh : highs ≡ t.hi.items) where
  pub row_near : Near x (places lows i) (places highs i)
  row_near =
      record {
        x_near = omega (arith, ap nat_abs (along_back a t p y hp hy i x ex), along_small a t p y hp hy i);
        low_near = omega (arith, ap nat_abs (lo_item t i lows el), lo_small t i);
        high_near = omega (arith, ap nat_abs (hi_item t i highs eh), hi_small t i);
      }

  pub row_turn : (s r : ℤ) → s ≡ ∑ i (row_part a t p y hp hy) → r ≡ furthest (back (places y i)) (back x) (back (places lows i)) (back (places highs i)) → Turn (row_part a t p y hp hy) i s r
  row_turn s r es er =
      let long = many_long _ 16777216 y hy in
      turn (row_part a t p y hp hy) (row_part_small a t p y hp hy) i s r (omega (arith, long, t.few)) es
      (row_part_is a t p y hp hy i _ _ _ _ r (weight_back a t y hy i _ refl) (along_back a t p y hp hy i x ex) (lo_item t i lows el) (hi_item t i highs eh) er)

-- a rope's part of the slack
module _ (g a : Grid) (t : Terms) (p y : List ℤ) (hp : many_within (ropes_of t) 32768 p ≡ true) (hy : many_within (rows_of t) 16777216 y ≡ true) (j : ℕ) (l : j < length p)
    (lows highs : List ℤ) (el : lows ≡ t.l.items) (eh : highs ≡ t.u.items) where
  pub rope_near : Near (places p j) (places lows j) (places highs j)
  rope_near =
      record {
        x_near = omega (arith, ap nat_abs (point_back g a t p y hp hy j _ refl), many_small _ 32768 p hp j);
        low_near = omega (arith, ap nat_abs (l_item t j lows el), l_small t j);
        high_near = omega (arith, ap nat_abs (u_item t j highs eh), u_small t j);
      }

  pub rope_turn : (w s r : ℤ) → w ≡ residual (problem_of g a t) (places p) (places y) j → s ≡ ∑ j (rope_part g a t p y hp hy) →
      r ≡ furthest (back w) (back (places p j)) (back (places lows j)) (back (places highs j)) → Turn (rope_part g a t p y hp hy) j s r
  rope_turn w s r ew es er =
      let long = many_long _ 32768 p hp in
      turn (rope_part g a t p y hp hy) (rope_part_small g a t p y hp hy) j s r (omega (arith, long, t.some.1)) es
      (rope_part_is g a t p y hp hy j _ _ _ _ r (residual_back g a t p y hp hy j w ew) (point_back g a t p y hp hy j _ refl) (l_item t j lows el) (u_item t j highs eh) er)

-- the least that a row needs
pub least_turn : (t : Terms) (y : List ℤ) (hy : many_within (rows_of t) 16777216 y ≡ true) (i : ℕ) → i < length y → (lows highs : List ℤ) (s r : ℤ) → lows ≡ t.lo.items →
    highs ≡ t.hi.items → s ≡ ∑ i (least_part blank t y hy) → r ≡ lowest (back (places y i)) (back (places lows i)) (back (places highs i)) → Turn (least_part blank t y hy) i s r
least_turn t y hy i l lows highs s r el eh es er =
    let long = many_long _ 16777216 y hy in
    turn (least_part blank t y hy) (least_part_small blank t y hy) i s r (omega (arith, long, t.few)) es
    (least_part_is blank t y hy i _ _ _ r (weight_back blank t y hy i _ refl) (lo_item t i lows el) (hi_item t i highs eh) er)

-- the most that a rope allows; the lower bounds are walked as a list
pub most_turn : (a : Grid) (t : Terms) (y : List ℤ) (hy : many_within (rows_of t) 16777216 y ≡ true) (j : ℕ) (lows highs : List ℤ) → lows ≡ t.l.items → j < length lows → (w s r : ℤ) →
    w ≡ column (length y) (matrix_of a) (places y) j → highs ≡ t.u.items → s ≡ ∑ j (most_part a t y hy) →
    r ≡ highest (back w) (back (places lows j)) (back (places highs j)) → Turn (most_part a t y hy) j s r
most_turn a t y hy j lows highs same l w s r ew eh es er =
    let long = ap length same in
    turn (most_part a t y hy) (most_part_small a t y hy) j s r (omega (arith, long, t.lefts.0, t.some.1)) es
    (most_part_is a t y hy j _ _ _ r (weights_back a t y hy j w ew) (l_item t j lows same) (u_item t j highs eh) er)
