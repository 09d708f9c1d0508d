-- The cost by the rows of G, and from one point to another.
use Rattle.std.proofs.Common.{◌≡◌, ℕ, ℤ, pos, ◌+ℤ◌, ◌-ℤ◌, ◌*ℤ◌, ◌∙◌, arith}
use Rattle.duality.specs.Sums.{Vector, ∑, dot, row, quad}
use Rattle.duality.specs.Problem.{Problem, cost, slope}
use Rattle.duality.specs.Convex.{Symmetric}
use Rattle.duality.proofs.Ring.{lin, ring, *ℤ-two}
use Rattle.duality.proofs.Sums.{∑-cong, ∑-add, ∑-scale}
use Rattle.duality.proofs.Forms.{dot_add, dot_comm, form_rows, quad_add}
use Rattle.duality.proofs.Congruence.{cost_cong, same_refl}

-- for one pass over the rows of G
pub cost_rows : (P : Problem) (z : Vector) → cost P z ≡ ∑ P.ropes (λ i. z i *ℤ (row P.ropes P.G z i +ℤ pos 2 *ℤ P.c i))
unfolding cost
cost_rows P z =
    omega (
      arith,
      lin,
      form_rows n P.G z z,
      ∑-scale n (pos 2) (λ i. P.c i *ℤ z i),
      ∑-add n (λ i. z i *ℤ row n P.G z i) (λ i. pos 2 *ℤ (P.c i *ℤ z i)),
      ∑-cong n (λ i. z i *ℤ (row n P.G z i +ℤ pos 2 *ℤ P.c i)) (λ i. z i *ℤ row n P.G z i +ℤ pos 2 *ℤ (P.c i *ℤ z i))
          (λ i _. term (z i) (row n P.G z i) (P.c i)),
    )
  where
    n : ℕ
    n = P.ropes

    term : (z g c : ℤ) → z *ℤ (g +ℤ pos 2 *ℤ c) ≡ z *ℤ g +ℤ pos 2 *ℤ (c *ℤ z)
    term z g c = simp ring (omega (arith, lin))

-- a step d changes the cost by twice the slope along d and the square form of d
pub cost_add : (P : Problem) (x d : Vector) → Symmetric P.ropes P.G →
    cost P (λ j. x j +ℤ d j) ≡ cost P x +ℤ (pos 2 *ℤ dot P.ropes (slope P x) d +ℤ quad P.ropes P.G d)
unfolding cost
cost_add P x d s =
    omega (
      arith,
      lin,
      quad_add n P.G x d s,
      dot_add n P.c x d,
      dot_comm n (slope P x) d,
      dot_add n d (row n P.G x) P.c,
      dot_comm n d (row n P.G x),
      dot_comm n d P.c,
      *ℤ-two (dot n P.c (λ j. x j +ℤ d j)),
      *ℤ-two (dot n P.c x),
      *ℤ-two (dot n (row n P.G x) d),
      *ℤ-two (dot n (slope P x) d),
    )
  where
    n : ℕ
    n = P.ropes

pub cost_from : (P : Problem) (p z : Vector) → Symmetric P.ropes P.G →
    cost P z ≡ cost P p +ℤ (pos 2 *ℤ dot P.ropes (slope P p) (λ j. z j -ℤ p j) +ℤ quad P.ropes P.G (λ j. z j -ℤ p j))
cost_from P p z s = cost_cong P P (same_refl P) z (λ j. p j +ℤ (z j -ℤ p j)) (λ j _. back (z j) (p j)) ∙ cost_add P p (λ j. z j -ℤ p j) s
  where
    back : (a b : ℤ) → a ≡ b +ℤ (a -ℤ b)
    back a b = omega (arith, lin)
