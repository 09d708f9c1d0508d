-- No feasible point lies below the floor of a pair.
--
-- From p to z the cost changes by 2 (G p + c)ᵀd and by dᵀG d, which a convex cost keeps from being negative. Times 256, the slope is what the
-- residual and the weighted rows make of d, and neither can fall further than to the far end of its interval: that is the slack.
use Rattle.std.proofs.Common.{◌≡◌, ℕ, ℤ, pos, ◌+ℤ◌, ◌-ℤ◌, ◌*ℤ◌, neg_ℤ, ◌≤ℤ◌, ap, arith}
use borrow.Author.Differences.{product_is}
use Rattle.std.proofs.lemmas.Int.{clamps}
use Rattle.duality.specs.Sums.{Vector, dot, column}
use Rattle.duality.specs.Problem.{Problem, Feasible, row_at, slope}
use Rattle.duality.specs.Floor.{residual, furthest, slack, FloorSound, SlipFloor, GapSound, GapClosed}
use Rattle.duality.proofs.Ring.{lin, ring}
use Rattle.duality.proofs.Order.{*ℤ-between}
use Rattle.duality.proofs.Sums.{∑-cong, ∑-le, ∑-sub, ∑-scale}
use Rattle.duality.proofs.Forms.{dot_sub, column_dot}
use Rattle.duality.proofs.Costs.{cost_from}
use Rattle.duality.proofs.Slip.{slip_sound}

furthest_le : (w x v low high : ℤ) → low ≤ℤ v → v ≤ℤ high → (w *ℤ (x -ℤ v)) ≤ℤ furthest w x low high
furthest_le w x v low high h k =
    let b = *ℤ-between w (x -ℤ v) (x -ℤ high) (x -ℤ low) (omega (arith, lin)) (omega (arith, lin)) in
    omega (arith, lin, clamps, b.1)

-- 256 (G p + c)ᵀv, by the residual and by the rows
split : (P : Problem) (p y v : Vector) →
    pos 256 *ℤ dot P.ropes (slope P p) v ≡ dot P.ropes (residual P p y) v +ℤ dot P.rows y (row_at P v)
unfolding residual
split P p y v =
    omega (
      arith,
      lin,
      ∑-cong n (λ j. residual P p y j *ℤ v j) (λ j. pos 256 *ℤ (slope P p j *ℤ v j) -ℤ w j *ℤ v j) (λ j _. simp ring (omega (arith, lin))),
      ∑-sub n (λ j. pos 256 *ℤ (slope P p j *ℤ v j)) (λ j. w j *ℤ v j),
      ∑-scale n (pos 256) (λ j. slope P p j *ℤ v j),
      column_dot P.rows n P.A y v,
    )
  where
    n : ℕ
    n = P.ropes

    w : Vector
    w = column P.rows P.A y

module _ (P : Problem) (p y z : Vector) (f : Feasible P z) where
  -- the slope falls by no more than the slack on the way from p to z
  fall_le : neg_ℤ (pos 256 *ℤ dot P.ropes (slope P p) (λ j. z j -ℤ p j)) ≤ℤ slack P p y
  unfolding slack
  fall_le =
      omega (
        arith,
        lin,
        split P p y p,
        split P p y z,
        ap (λ (t : ℤ). pos 256 *ℤ t) (dot_sub n (slope P p) z p),
        product_is (pos 256) (dot n (slope P p) z -ℤ dot n (slope P p) p),
        product_is (pos 256) (dot n (slope P p) z),
        product_is (pos 256) (dot n (slope P p) p),
        dot_sub n (residual P p y) p z,
        dot_sub P.rows y (row_at P p) (row_at P z),
        ∑-le n (λ j. residual P p y j *ℤ (p j -ℤ z j)) (λ j. furthest (residual P p y j) (p j) (P.l j) (P.u j))
            (λ j k. furthest_le (residual P p y j) (p j) (z j) (P.l j) (P.u j) (f.bound_l j k) (f.bound_u j k)),
        ∑-le P.rows (λ i. y i *ℤ (row_at P p i -ℤ row_at P z i)) (λ i. furthest (y i) (row_at P p i) (P.lo i) (P.hi i))
            (λ i k. furthest_le (y i) (row_at P p i) (row_at P z i) (P.lo i) (P.hi i) (f.row_lo i k) (f.row_hi i k)),
      )
    where
      n : ℕ
      n = P.ropes

pub floor_sound : FloorSound
floor_sound P s v p y z f = omega (arith, lin, product_is, cost_from P p z s, v (λ j. z j -ℤ p j), fall_le P p y z f)

pub slip_floor : SlipFloor
slip_floor P L s h = floor_sound P s (slip_sound P.ropes P.G L s h)

pub gap_sound : GapSound
gap_sound P L s h p y z x f = omega (arith, lin, product_is, slip_floor P L s h p y x f)

-- a saving of 1 would take a gap of 256
pub gap_closed : GapClosed
gap_closed P L s h p y z f g = record { feasible = f; cheapest = λ x k. omega (arith, lin, product_is, slip_floor P L s h p y x k) }
