-- A vector of which one place changes: its products, slope and cost from those before, with no sum run again.
use Rattle.std.proofs.Common.{◌≡◌, ℕ, ◌<◌, ℤ, pos, ◌+ℤ◌, ◌-ℤ◌, ◌*ℤ◌, ap, ◌∙◌, arith}
use Rattle.duality.specs.Sums.{Vector, dot, row, quad}
use Rattle.duality.specs.Problem.{Problem, cost, slope}
use Rattle.duality.specs.Convex.{Symmetric}
use Rattle.duality.proofs.Ring.{lin, ring, *ℤ-distl}
use Rattle.duality.proofs.Sums.{∑-shift}
use Rattle.duality.proofs.Forms.{dot_comm, dot_sub, form_rows}
use Rattle.duality.proofs.Costs.{cost_from}

-- y is x with d more at place j
pub record Shift (n j : ℕ) (d : ℤ) (x y : Vector) : Type 0 where
  pub inside : j < n
  pub at : y j ≡ x j +ℤ d
  pub off : (k : ℕ) → k < n → (k ≡ j → ⊥) → y k ≡ x k

-- of a row, at w = A i: row n A y i ≡ row n A x i +ℤ A i j *ℤ d
pub dot_shift : (n j : ℕ) (d : ℤ) (w x y : Vector) → Shift n j d x y → dot n w y ≡ dot n w x +ℤ w j *ℤ d
dot_shift n j d w x y s =
    ∑-shift n (λ k. w k *ℤ x k) (λ k. w k *ℤ y k) j (w j *ℤ d) s.inside
    (ap (λ (t : ℤ). w j *ℤ t) s.at ∙ *ℤ-distl (w j) (x j) d) (λ k l ne. ap (λ (t : ℤ). w k *ℤ t) (s.off k l ne))

pub slope_shift : (P : Problem) (j : ℕ) (d : ℤ) (x y : Vector) (i : ℕ) → Shift P.ropes j d x y → slope P y i ≡ slope P x i +ℤ P.G i j *ℤ d
slope_shift P j d x y i s = omega (arith, lin, dot_shift P.ropes j d (P.G i) x y s)

pub cost_shift : (P : Problem) (j : ℕ) (d : ℤ) (x y : Vector) → Symmetric P.ropes P.G → Shift P.ropes j d x y →
    cost P y ≡ cost P x +ℤ d *ℤ (pos 2 *ℤ slope P x j +ℤ d *ℤ P.G j j)
cost_shift P j d x y g s =
    put (cost P y) (cost P x) (slope P x j) (P.G j j) (dot n (slope P x) step) (quad n P.G step) (cost_from P x y g) (along (slope P x))
    (form_rows n P.G step step ∙ dot_comm n step (row n P.G step) ∙ along (row n P.G step) ∙ ap (λ (t : ℤ). t *ℤ d) (along (P.G j)))
  where
    n : ℕ
    n = P.ropes

    step : Vector
    step k = y k -ℤ x k

    along : (w : Vector) → dot n w step ≡ w j *ℤ d
    along w = omega (arith, lin, dot_sub n w y x, dot_shift n j d w x y s)

    put : (Cy Cx S g D Q : ℤ) → Cy ≡ Cx +ℤ (pos 2 *ℤ D +ℤ Q) → D ≡ S *ℤ d → Q ≡ g *ℤ d *ℤ d → Cy ≡ Cx +ℤ d *ℤ (pos 2 *ℤ S +ℤ d *ℤ g)
    put Cy Cx S g D Q e p q = rw (e, p, q) (simp ring (omega (arith, lin)))
