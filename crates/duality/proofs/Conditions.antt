-- Under the optimality conditions each term of the slack is 0.
use Rattle.std.proofs.Common.{◌≡◌, ℤ, pos, ◌-ℤ◌, ◌*ℤ◌, ◌≤ℤ◌, ◌<ℤ◌, ap, arith}
use lib.IntN.{zero-*ℤ, *ℤ-zero}
use Rattle.std.proofs.lemmas.Int.{clamps, by_lt_z}
use Rattle.duality.specs.Sums.{Vector}
use Rattle.duality.specs.Problem.{Problem, cost, row_at}
use Rattle.duality.specs.Floor.{residual, furthest, slack}
use Rattle.duality.specs.Conditions.{Conditions, ConditionsTight}
use Rattle.duality.proofs.Ring.{lin}
use Rattle.duality.proofs.Order.{*ℤ-le, *ℤ-ge}
use Rattle.duality.proofs.Sums.{∑-cong, ∑-zero}

furthest_tight : (w x low high : ℤ) → low ≤ℤ x → x ≤ℤ high → (pos 0 <ℤ w → x ≡ low) → (w <ℤ pos 0 → x ≡ high) → furthest w x low high ≡ pos 0
furthest_tight w x low high a b e f = by_lt_z (pos 0) w up_press (λ n. by_lt_z w (pos 0) down_press (λ m. none (omega (arith, lin))))
  where
    -- 0 at an end that x touches, and not above 0 at the other
    up_press : pos 0 <ℤ w → furthest w x low high ≡ pos 0
    up_press h =
        let touch : x -ℤ low ≡ pos 0 = omega (arith, lin, e h) in
        omega (arith, lin, clamps, ap (λ (t : ℤ). w *ℤ t) touch, *ℤ-zero w, *ℤ-le w (x -ℤ high) (pos 0) (omega (arith, lin)) (omega (arith, lin)))

    down_press : w <ℤ pos 0 → furthest w x low high ≡ pos 0
    down_press h =
        let touch : x -ℤ high ≡ pos 0 = omega (arith, lin, f h) in
        omega (arith, lin, clamps, ap (λ (t : ℤ). w *ℤ t) touch, *ℤ-zero w, *ℤ-ge w (pos 0) (x -ℤ low) (omega (arith, lin)) (omega (arith, lin)))

    none : w ≡ pos 0 → furthest w x low high ≡ pos 0
    none z = rw (z, zero-*ℤ (x -ℤ low), zero-*ℤ (x -ℤ high))

slack_tight : (P : Problem) (p y : Vector) → Conditions P p y → slack P p y ≡ pos 0
unfolding slack
slack_tight P p y k =
    omega (
      arith,
      lin,
      ∑-cong P.rows (λ i. furthest (y i) (row_at P p i) (P.lo i) (P.hi i)) (λ _. pos 0)
          (λ i h. furthest_tight (y i) (row_at P p i) (P.lo i) (P.hi i) (k.feasible.row_lo i h) (k.feasible.row_hi i h) (k.at_lo i h) (k.at_hi i h)),
      ∑-cong P.ropes (λ j. furthest (residual P p y j) (p j) (P.l j) (P.u j)) (λ _. pos 0)
          (λ j h. furthest_tight (residual P p y j) (p j) (P.l j) (P.u j) (k.feasible.bound_l j h) (k.feasible.bound_u j h) (k.at_l j h) (k.at_u j h)),
      ∑-zero P.rows,
      ∑-zero P.ropes,
    )

pub conditions_tight : ConditionsTight
conditions_tight P p y k = rw (slack_tight P p y k) (put (pos 256 *ℤ cost P p))
  where
    put : (t : ℤ) → t -ℤ (t -ℤ pos 0) ≡ pos 0
    put t = omega (arith, lin)
