-- One rope moves: the gradient and the cost from those before, for any G.
use Rattle.std.proofs.Common.{◌≡◌, ℕ, ◌<◌, eqb, ℤ, pos, ◌+ℤ◌, ◌*ℤ◌, sym, refl, ap, ◌∙◌, arith}
use Rattle.std.proofs.lemmas.Bool.{eq-eqb, ne_eqb, cond-true, cond-false}
use Rattle.duality.specs.Sums.{Vector, dot, row, column, quad}
use Rattle.duality.specs.Problem.{Problem, cost}
use Rattle.duality.proofs.Ring.{lin, ring, *ℤ-assoc, *ℤ-distr}
use Rattle.duality.proofs.Sums.{∑-cong, ∑-scaled}
use Rattle.duality.proofs.Forms.{dot_comm, dot_add, form_rows}
use Rattle.duality.proofs.Shifts.{Shift, dot_shift}
use Rattle.job.specs.Points.{gradient, nudged, CostChange}

module _ (P : Problem) (j : ℕ) (d : ℤ) (x y : Vector) (s : Shift P.ropes j d x y) where
  row_shift : (i : ℕ) → row P.ropes P.G y i ≡ row P.ropes P.G x i +ℤ P.G i j *ℤ d
  row_shift i = dot_shift P.ropes j d (P.G i) x y s

  column_shift : (i : ℕ) → column P.ropes P.G y i ≡ column P.ropes P.G x i +ℤ P.G j i *ℤ d
  column_shift i =
      dot_comm P.ropes y (λ k. P.G k i)
      ∙ dot_shift P.ropes j d (λ k. P.G k i) x y s
      ∙ ap (λ (t : ℤ). t +ℤ P.G j i *ℤ d) (dot_comm P.ropes (λ k. P.G k i) x)

  pub gradient_shift : (i : ℕ) → gradient P y i ≡ gradient P x i +ℤ (P.G i j +ℤ P.G j i) *ℤ d
  gradient_shift i = omega (arith, lin, row_shift i, column_shift i, *ℤ-distr (P.G i j) (P.G j i) d)

  quad_shift : quad P.ropes P.G y ≡ quad P.ropes P.G x +ℤ (row P.ropes P.G x j *ℤ d +ℤ (column P.ropes P.G x j +ℤ P.G j j *ℤ d) *ℤ d)
  quad_shift =
      omega (
        arith,
        lin,
        form_rows P.ropes P.G y y,
        ∑-cong P.ropes (λ i. y i *ℤ row P.ropes P.G y i) (λ i. y i *ℤ (row P.ropes P.G x i +ℤ P.G i j *ℤ d)) (λ i _. ap (λ (t : ℤ). y i *ℤ t) (row_shift i)),
        dot_add P.ropes y (row P.ropes P.G x) (λ i. P.G i j *ℤ d),
        dot_comm P.ropes y (row P.ropes P.G x),
        dot_shift P.ropes j d (row P.ropes P.G x) x y s,
        dot_comm P.ropes (row P.ropes P.G x) x,
        form_rows P.ropes P.G x x,
        out,
      )
    where
      out : dot P.ropes y (λ i. P.G i j *ℤ d) ≡ (column P.ropes P.G x j +ℤ P.G j j *ℤ d) *ℤ d
      out =
          ∑-cong P.ropes (λ i. y i *ℤ (P.G i j *ℤ d)) (λ i. y i *ℤ P.G i j *ℤ d) (λ i _. sym (*ℤ-assoc (y i) (P.G i j) d))
          ∙ ∑-scaled P.ropes (λ i. y i *ℤ P.G i j) d
          ∙ ap (λ (t : ℤ). t *ℤ d) (column_shift j)

  pub cost_by_gradient : cost P y ≡ cost P x +ℤ d *ℤ (gradient P x j +ℤ P.G j j *ℤ d)
  unfolding cost
  cost_by_gradient =
      put (quad P.ropes P.G y) (quad P.ropes P.G x) (dot P.ropes P.c y) (dot P.ropes P.c x) (row P.ropes P.G x j) (column P.ropes P.G x j) (P.c j) (P.G j j)
      quad_shift (dot_shift P.ropes j d P.c x y s)
    where
      put : (Qy Qx Ly Lx r k c g : ℤ) → Qy ≡ Qx +ℤ (r *ℤ d +ℤ (k +ℤ g *ℤ d) *ℤ d) → Ly ≡ Lx +ℤ c *ℤ d →
          Qy +ℤ pos 2 *ℤ Ly ≡ (Qx +ℤ pos 2 *ℤ Lx) +ℤ d *ℤ ((r +ℤ k +ℤ pos 2 *ℤ c) +ℤ g *ℤ d)
      put Qy Qx Ly Lx r k c g e f = rw (e, f) (simp ring (omega (arith, lin)))

-- Law: the change of the cost, from the gradient.
pub cost_change : (P : Problem) (z : Vector) (j : ℕ) (g : ℤ) → j < P.ropes → g ≡ gradient P z j → CostChange P z j g
cost_change P z j g l e d =
    cost_by_gradient P j d z (nudged z j d)
    (record {
      inside = l;
      at = cond-true (eqb j j) (z j +ℤ d) (z j) (eq-eqb j j refl);
      off = λ k _ ne. cond-false (eqb k j) (z k +ℤ d) (z k) (ne_eqb k j ne);
    })
    ∙ ap (λ (t : ℤ). cost P z +ℤ d *ℤ (t +ℤ P.G j j *ℤ d)) (sym e)
