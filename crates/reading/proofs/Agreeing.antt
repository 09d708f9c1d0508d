-- Problems that agree have the same feasible points, at the same cost, and the same floors.
use Rattle.std.proofs.Common.{◌≡◌, ℕ, ◌<◌, ℤ, pos, ◌*ℤ◌, ◌+ℤ◌, ◌-ℤ◌, sym, ap, ◌∙◌, arith}
use Rattle.duality.specs.Floor.{furthest, residual, slack}
use Rattle.duality.specs.Problem.{Problem, Feasible, cost, row_at, slope}
use Rattle.duality.specs.Sums.{Vector, ∑, dot, row, quad, column}
use Rattle.duality.proofs.Sums.{∑-cong}
use Rattle.reading.specs.Plain.{Agrees, SamePoints, SameFloors}

module _ (P Q : Problem) (h : Agrees P Q) where
  pub same_row : (z : Vector) (i : ℕ) → i < Q.rows → row_at P z i ≡ row_at Q z i
  same_row z i l =
      ap (λ (n : ℕ). ∑ n (λ j. P.A i j *ℤ z j)) h.same_ropes
      ∙ ∑-cong Q.ropes (λ j. P.A i j *ℤ z j) (λ j. Q.A i j *ℤ z j) (λ j m. ap (λ (w : ℤ). w *ℤ z j) (h.same_a i j l m))

  same_quad : (z : Vector) → quad P.ropes P.G z ≡ quad Q.ropes Q.G z
  same_quad z =
      ap (λ (n : ℕ). quad n P.G z) h.same_ropes
      ∙ ∑-cong Q.ropes (λ i. ∑ Q.ropes (λ j. z i *ℤ P.G i j *ℤ z j)) (λ i. ∑ Q.ropes (λ j. z i *ℤ Q.G i j *ℤ z j))
      (λ i l. ∑-cong Q.ropes (λ j. z i *ℤ P.G i j *ℤ z j) (λ j. z i *ℤ Q.G i j *ℤ z j) (λ j m. ap (λ (w : ℤ). z i *ℤ w *ℤ z j) (h.same_g i j l m)))

  same_prices : (z : Vector) → dot P.ropes P.c z ≡ dot Q.ropes Q.c z
  same_prices z =
      ap (λ (n : ℕ). dot n P.c z) h.same_ropes
      ∙ ∑-cong Q.ropes (λ j. P.c j *ℤ z j) (λ j. Q.c j *ℤ z j) (λ j m. ap (λ (w : ℤ). w *ℤ z j) (h.same_c j m))

  pub same_cost : (z : Vector) → cost P z ≡ cost Q z
  unfolding cost
  same_cost z = rw (same_quad z, same_prices z)

  feasible_there : (z : Vector) → Feasible P z → Feasible Q z
  feasible_there z f =
      record {
        row_lo = λ i l. rw (sym (same_row z i l), sym (h.same_lo i l)) (f.row_lo i (omega (arith, h.same_rows)));
        row_hi = λ i l. rw (sym (same_row z i l), sym (h.same_hi i l)) (f.row_hi i (omega (arith, h.same_rows)));
        bound_l = λ j l. rw (sym (h.same_l j l)) (f.bound_l j (omega (arith, h.same_ropes)));
        bound_u = λ j l. rw (sym (h.same_u j l)) (f.bound_u j (omega (arith, h.same_ropes)));
      }

  feasible_here : (z : Vector) → Feasible Q z → Feasible P z
  feasible_here z f =
      record {
        row_lo = λ i k. let l : i < Q.rows = omega (arith, h.same_rows) in rw (same_row z i l, h.same_lo i l) (f.row_lo i l);
        row_hi = λ i k. let l : i < Q.rows = omega (arith, h.same_rows) in rw (same_row z i l, h.same_hi i l) (f.row_hi i l);
        bound_l = λ j k. let l : j < Q.ropes = omega (arith, h.same_ropes) in rw (h.same_l j l) (f.bound_l j l);
        bound_u = λ j k. let l : j < Q.ropes = omega (arith, h.same_ropes) in rw (h.same_u j l) (f.bound_u j l);
      }

  pub same_points : SamePoints P Q
  same_points z = (same_cost z, feasible_there z, feasible_here z)

  same_slope : (p : Vector) (j : ℕ) → j < Q.ropes → slope P p j ≡ slope Q p j
  same_slope p j l =
      ap (λ (n : ℕ). row n P.G p j +ℤ P.c j) h.same_ropes
      ∙ ap (λ (s : ℤ). s +ℤ P.c j) (∑-cong Q.ropes (λ k. P.G j k *ℤ p k) (λ k. Q.G j k *ℤ p k) (λ k m. ap (λ (w : ℤ). w *ℤ p k) (h.same_g j k l m)))
      ∙ ap (λ (w : ℤ). row Q.ropes Q.G p j +ℤ w) (h.same_c j l)

  same_column : (y : Vector) (j : ℕ) → j < Q.ropes → column P.rows P.A y j ≡ column Q.rows Q.A y j
  same_column y j l =
      ap (λ (m : ℕ). column m P.A y j) h.same_rows
      ∙ ∑-cong Q.rows (λ i. y i *ℤ P.A i j) (λ i. y i *ℤ Q.A i j) (λ i m. ap (λ (w : ℤ). y i *ℤ w) (h.same_a i j m l))

  same_residual : (p y : Vector) (j : ℕ) → j < Q.ropes → residual P p y j ≡ residual Q p y j
  unfolding residual
  same_residual p y j l =
      ap (λ (s : ℤ). pos 256 *ℤ s -ℤ column P.rows P.A y j) (same_slope p j l) ∙ ap (λ (w : ℤ). pos 256 *ℤ slope Q p j -ℤ w) (same_column y j l)

  same_row_slack : (p y : Vector) (i : ℕ) → i < Q.rows → furthest (y i) (row_at P p i) (P.lo i) (P.hi i) ≡ furthest (y i) (row_at Q p i) (Q.lo i) (Q.hi i)
  same_row_slack p y i l = rw (same_row p i l, h.same_lo i l, h.same_hi i l)

  same_rope_slack : (p y : Vector) (j : ℕ) → j < Q.ropes → furthest (residual P p y j) (p j) (P.l j) (P.u j) ≡ furthest (residual Q p y j) (p j) (Q.l j) (Q.u j)
  same_rope_slack p y j l = rw (same_residual p y j l, h.same_l j l, h.same_u j l)

  same_slack : (p y : Vector) → slack P p y ≡ slack Q p y
  unfolding slack
  same_slack p y =
      ap (λ (m : ℕ). ∑ m (λ i. furthest (y i) (row_at P p i) (P.lo i) (P.hi i)) +ℤ ∑ P.ropes (λ j. furthest (residual P p y j) (p j) (P.l j) (P.u j))) h.same_rows
      ∙ ap (λ (n : ℕ). ∑ Q.rows (λ i. furthest (y i) (row_at P p i) (P.lo i) (P.hi i)) +ℤ ∑ n (λ j. furthest (residual P p y j) (p j) (P.l j) (P.u j))) h.same_ropes
      ∙ ap (λ (s : ℤ). s +ℤ ∑ Q.ropes (λ j. furthest (residual P p y j) (p j) (P.l j) (P.u j))) (∑-cong Q.rows _ _ (same_row_slack p y))
      ∙ ap (λ (s : ℤ). ∑ Q.rows (λ i. furthest (y i) (row_at Q p i) (Q.lo i) (Q.hi i)) +ℤ s) (∑-cong Q.ropes _ _ (same_rope_slack p y))

  pub same_floor : SameFloors P Q
  same_floor p y = rw (same_cost p, same_slack p y)
