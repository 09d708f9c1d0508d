-- The products of vectors and matrices: linear in each part, turned round, and of a matrix with itself.
use Rattle.std.proofs.Common.{◌≡◌, ℕ, ℤ, pos, ◌+ℤ◌, ◌-ℤ◌, ◌*ℤ◌, sym, ap, ◌∙◌, arith}
use lib.IntN.{*ℤ_comm}
use Rattle.duality.specs.Sums.{Vector, Matrix, ∑, dot, row, column, form, quad}
use Rattle.duality.specs.Convex.{Symmetric}
use Rattle.duality.proofs.Ring.{lin, ring, *ℤ-assoc, *ℤ-distl, *ℤ-two}
use Rattle.duality.proofs.Sums.{∑-cong, ∑-add, ∑-sub, ∑-scale, ∑-scaled, ∑-swap, ∑-product, ∑∑-cong, ∑∑-sub, ∑∑-scale}

pub dot_comm : (n : ℕ) (x y : Vector) → dot n x y ≡ dot n y x
dot_comm n x y = ∑-cong n (λ j. x j *ℤ y j) (λ j. y j *ℤ x j) (λ j _. *ℤ_comm (x j) (y j))

pub dot_add : (n : ℕ) (w x y : Vector) → dot n w (λ j. x j +ℤ y j) ≡ dot n w x +ℤ dot n w y
dot_add n w x y =
    ∑-cong n (λ j. w j *ℤ (x j +ℤ y j)) (λ j. w j *ℤ x j +ℤ w j *ℤ y j) (λ j _. *ℤ-distl (w j) (x j) (y j))
    ∙ ∑-add n (λ j. w j *ℤ x j) (λ j. w j *ℤ y j)

pub dot_sub : (n : ℕ) (w x y : Vector) → dot n w (λ j. x j -ℤ y j) ≡ dot n w x -ℤ dot n w y
dot_sub n w x y =
    ∑-cong n (λ j. w j *ℤ (x j -ℤ y j)) (λ j. w j *ℤ x j -ℤ w j *ℤ y j) (λ j _. term (w j) (x j) (y j))
    ∙ ∑-sub n (λ j. w j *ℤ x j) (λ j. w j *ℤ y j)
  where
    term : (w x y : ℤ) → w *ℤ (x -ℤ y) ≡ w *ℤ x -ℤ w *ℤ y
    term w x y = simp ring

-- (yᵀA) v is yᵀ(A v)
pub column_dot : (m n : ℕ) (A : Matrix) (y v : Vector) → dot n (column m A y) v ≡ dot m y (row n A v)
column_dot m n A y v =
    ∑-cong n (λ j. column m A y j *ℤ v j) (λ j. ∑ m (λ i. y i *ℤ A i j *ℤ v j)) (λ j _. sym (∑-scaled m (λ i. y i *ℤ A i j) (v j)))
    ∙ ∑-swap n m (λ j i. y i *ℤ A i j *ℤ v j)
    ∙ ∑-cong m (λ i. ∑ n (λ j. y i *ℤ A i j *ℤ v j)) (λ i. y i *ℤ row n A v i) (λ i _. out i)
  where
    out : (i : ℕ) → ∑ n (λ j. y i *ℤ A i j *ℤ v j) ≡ y i *ℤ row n A v i
    out i =
        ∑-cong n (λ j. y i *ℤ A i j *ℤ v j) (λ j. y i *ℤ (A i j *ℤ v j)) (λ j _. *ℤ-assoc (y i) (A i j) (v j))
        ∙ ∑-scale n (y i) (λ j. A i j *ℤ v j)

-- xᵀG y from the rows of G y; of one vector, quad n G z ≡ ∑ n (λ i. z i *ℤ row n G z i)
pub form_rows : (n : ℕ) (G : Matrix) (x y : Vector) → form n G x y ≡ dot n x (row n G y)
form_rows n G x y = ∑-cong n (λ i. ∑ n (λ j. x i *ℤ G i j *ℤ y j)) (λ i. x i *ℤ row n G y i) (λ i _. out i)
  where
    out : (i : ℕ) → ∑ n (λ j. x i *ℤ G i j *ℤ y j) ≡ x i *ℤ row n G y i
    out i =
        ∑-cong n (λ j. x i *ℤ G i j *ℤ y j) (λ j. x i *ℤ (G i j *ℤ y j)) (λ j _. *ℤ-assoc (x i) (G i j) (y j))
        ∙ ∑-scale n (x i) (λ j. G i j *ℤ y j)

pub form_swap : (n : ℕ) (G : Matrix) (x y : Vector) → Symmetric n G → form n G x y ≡ form n G y x
form_swap n G x y s =
    ∑-swap n n (λ i j. x i *ℤ G i j *ℤ y j)
    ∙ ∑∑-cong n n (λ j i. x i *ℤ G i j *ℤ y j) (λ j i. y j *ℤ G j i *ℤ x i)
    (λ j i k l. ap (λ (g : ℤ). x i *ℤ g *ℤ y j) (s i j l k) ∙ turn (x i) (G j i) (y j))
  where
    turn : (a g b : ℤ) → a *ℤ g *ℤ b ≡ b *ℤ g *ℤ a
    turn a g b = simp ring

-- (x + d)ᵀG (x + d)
pub quad_add : (n : ℕ) (G : Matrix) (x d : Vector) → Symmetric n G →
    quad n G (λ j. x j +ℤ d j) ≡ quad n G x +ℤ (pos 2 *ℤ dot n (row n G x) d +ℤ quad n G d)
quad_add n G x d s =
    omega (
      arith,
      lin,
      form_rows n G sum sum,
      dot_comm n sum (row n G sum),
      dot_add n (row n G sum) x d,
      dot_comm n (row n G sum) x,
      dot_comm n (row n G sum) d,
      split x,
      split d,
      form_rows n G x x,
      form_rows n G x d,
      form_rows n G d x,
      form_rows n G d d,
      form_swap n G x d s,
      dot_comm n (row n G x) d,
      *ℤ-two (dot n (row n G x) d),
    )
  where
    sum : Vector
    sum j = x j +ℤ d j

    split : (v : Vector) → dot n v (row n G sum) ≡ dot n v (row n G x) +ℤ dot n v (row n G d)
    split v =
        ∑-cong n (λ i. v i *ℤ row n G sum i) (λ i. v i *ℤ (row n G x i +ℤ row n G d i)) (λ i _. ap (λ (t : ℤ). v i *ℤ t) (dot_add n (G i) x d))
        ∙ dot_add n v (row n G x) (row n G d)

-- xᵀ(a G - M) y
pub form_minus : (n : ℕ) (a : ℤ) (G M : Matrix) (x y : Vector) → form n (λ i j. a *ℤ G i j -ℤ M i j) x y ≡ a *ℤ form n G x y -ℤ form n M x y
form_minus n a G M x y =
    ∑∑-cong n n (λ i j. x i *ℤ (a *ℤ G i j -ℤ M i j) *ℤ y j) (λ i j. a *ℤ (x i *ℤ G i j *ℤ y j) -ℤ x i *ℤ M i j *ℤ y j)
    (λ i j _ _. term (x i) (G i j) (M i j) (y j))
    ∙ ∑∑-sub n n (λ i j. a *ℤ (x i *ℤ G i j *ℤ y j)) (λ i j. x i *ℤ M i j *ℤ y j)
    ∙ ap (λ (z : ℤ). z -ℤ form n M x y) (∑∑-scale n n a (λ i j. x i *ℤ G i j *ℤ y j))
  where
    term : (x g m y : ℤ) → x *ℤ (a *ℤ g -ℤ m) *ℤ y ≡ a *ℤ (x *ℤ g *ℤ y) -ℤ x *ℤ m *ℤ y
    term x g m y = simp ring (omega (arith, lin))

-- dᵀLᵀL d is the sum of the squares of L d
pub quad_gram : (n : ℕ) (L : Matrix) (d : Vector) → quad n (λ i j. ∑ n (λ k. L k i *ℤ L k j)) d ≡ ∑ n (λ k. row n L d k *ℤ row n L d k)
quad_gram n L d =
    ∑∑-cong n n (λ i j. d i *ℤ ∑ n (λ k. L k i *ℤ L k j) *ℤ d j) (λ i j. ∑ n (λ k. (L k i *ℤ d i) *ℤ (L k j *ℤ d j))) (λ i j _ _. inner i j)
    ∙ ∑-cong n (λ i. ∑ n (λ j. ∑ n (λ k. (L k i *ℤ d i) *ℤ (L k j *ℤ d j)))) (λ i. ∑ n (λ k. ∑ n (λ j. (L k i *ℤ d i) *ℤ (L k j *ℤ d j))))
    (λ i _. ∑-swap n n (λ j k. (L k i *ℤ d i) *ℤ (L k j *ℤ d j)))
    ∙ ∑-swap n n (λ i k. ∑ n (λ j. (L k i *ℤ d i) *ℤ (L k j *ℤ d j)))
    ∙ ∑-cong n (λ k. ∑ n (λ i. ∑ n (λ j. (L k i *ℤ d i) *ℤ (L k j *ℤ d j)))) (λ k. row n L d k *ℤ row n L d k)
    (λ k _. ∑-product n n (λ i. L k i *ℤ d i) (λ j. L k j *ℤ d j))
  where
    regroup : (a b x y : ℤ) → x *ℤ (a *ℤ b) *ℤ y ≡ (a *ℤ x) *ℤ (b *ℤ y)
    regroup a b x y = simp ring

    inner : (i j : ℕ) → d i *ℤ ∑ n (λ k. L k i *ℤ L k j) *ℤ d j ≡ ∑ n (λ k. (L k i *ℤ d i) *ℤ (L k j *ℤ d j))
    inner i j =
        ap (λ (z : ℤ). z *ℤ d j) (sym (∑-scale n (d i) (λ k. L k i *ℤ L k j)))
        ∙ sym (∑-scaled n (λ k. d i *ℤ (L k i *ℤ L k j)) (d j))
        ∙ ∑-cong n (λ k. d i *ℤ (L k i *ℤ L k j) *ℤ d j) (λ k. (L k i *ℤ d i) *ℤ (L k j *ℤ d j)) (λ k _. regroup (L k i) (L k j) (d i) (d j))
