-- Only places below the sizes count: vectors, matrices and problems that agree there have the same products, cost, floor and refutations.
use Rattle.std.proofs.Common.{◌≡◌, ℕ, ◌<◌, ℤ, ◌+ℤ◌, ◌*ℤ◌, refl, ap, ◌∙◌, arith}
use Rattle.duality.specs.Sums.{Vector, Matrix, ∑, dot, row, column, quad}
use Rattle.duality.specs.Problem.{Problem, Feasible, cost, row_at, slope}
use Rattle.duality.specs.Floor.{residual, furthest, slack, floor}
use Rattle.duality.specs.Refutation.{highest, lowest, most_allowed, least_needed}
use Rattle.duality.proofs.Sums.{∑-cong, ∑∑-cong}

abbrev pub Agree : ℕ → Vector → Vector → Type 0
Agree n x y = (k : ℕ) → k < n → x k ≡ y k

pub dot_cong : (n : ℕ) (v w x y : Vector) → Agree n v w → Agree n x y → dot n v x ≡ dot n w y
dot_cong n v w x y g h = ∑-cong n (λ j. v j *ℤ x j) (λ j. w j *ℤ y j) (λ j l. rw (g j l, h j l))

pub row_cong : (n : ℕ) (A B : Matrix) (x y : Vector) (i : ℕ) → Agree n (A i) (B i) → Agree n x y → row n A x i ≡ row n B y i
row_cong n A B x y i g h = dot_cong n (A i) (B i) x y g h

pub column_cong : (m : ℕ) (A B : Matrix) (x y : Vector) (j : ℕ) → Agree m (λ i. A i j) (λ i. B i j) → Agree m x y → column m A x j ≡ column m B y j
column_cong m A B x y j g h = dot_cong m x y (λ i. A i j) (λ i. B i j) h g

pub quad_cong : (n : ℕ) (G H : Matrix) (x y : Vector) → ((i j : ℕ) → i < n → j < n → G i j ≡ H i j) → Agree n x y → quad n G x ≡ quad n H y
quad_cong n G H x y g h = ∑∑-cong n n (λ i j. x i *ℤ G i j *ℤ x j) (λ i j. y i *ℤ H i j *ℤ y j) (λ i j k l. rw (g i j k l, h i k, h j l))

-- two problems of the same sizes, with the same numbers below them
pub record Same (P Q : Problem) : Type 0 where
  pub ropes : P.ropes ≡ Q.ropes
  pub rows : P.rows ≡ Q.rows
  pub G : (i j : ℕ) → i < P.ropes → j < P.ropes → P.G i j ≡ Q.G i j
  pub c : Agree P.ropes P.c Q.c
  pub A : (i j : ℕ) → i < P.rows → j < P.ropes → P.A i j ≡ Q.A i j
  pub lo : Agree P.rows P.lo Q.lo
  pub hi : Agree P.rows P.hi Q.hi
  pub l : Agree P.ropes P.l Q.l
  pub u : Agree P.ropes P.u Q.u

-- for laws below at one problem
pub same_refl : (P : Problem) → Same P P
same_refl P =
    record {
      ropes = refl;
      rows = refl;
      G = λ _ _ _ _. refl;
      c = λ _ _. refl;
      A = λ _ _ _ _. refl;
      lo = λ _ _. refl;
      hi = λ _ _. refl;
      l = λ _ _. refl;
      u = λ _ _. refl;
    }

module _ (P Q : Problem) (s : Same P Q) where
  pub cost_cong : (x y : Vector) → Agree P.ropes x y → cost P x ≡ cost Q y
  unfolding cost
  cost_cong x y h =
      rw (
        quad_cong P.ropes P.G Q.G x y s.G h,
        dot_cong P.ropes P.c Q.c x y s.c h,
        s.ropes,
      )

  pub row_at_cong : (x y : Vector) (i : ℕ) → i < P.rows → Agree P.ropes x y → row_at P x i ≡ row_at Q y i
  row_at_cong x y i k h = row_cong P.ropes P.A Q.A x y i (λ j l. s.A i j k l) h ∙ ap (λ (n : ℕ). row n Q.A y i) s.ropes

  pub slope_cong : (x y : Vector) (j : ℕ) → j < P.ropes → Agree P.ropes x y → slope P x j ≡ slope Q y j
  slope_cong x y j k h =
      ap (λ (t : ℤ). t +ℤ P.c j) (row_cong P.ropes P.G Q.G x y j (λ i l. s.G j i k l) h)
      ∙ ap (λ (t : ℤ). row P.ropes Q.G y j +ℤ t) (s.c j k)
      ∙ ap (λ (n : ℕ). row n Q.G y j +ℤ Q.c j) s.ropes

  weights_cong : (y w : Vector) (j : ℕ) → j < P.ropes → Agree P.rows y w → column P.rows P.A y j ≡ column Q.rows Q.A w j
  weights_cong y w j k h =
      column_cong P.rows P.A Q.A y w j (λ i l. s.A i j l k) h
      ∙ ap (λ (m : ℕ). column m Q.A w j) s.rows

  pub FeasibleCong : (x y : Vector) → Agree P.ropes x y → Feasible P x → Feasible Q y
  FeasibleCong x y h f =
      record {
        row_lo = λ i l. let k : i < P.rows = omega (arith, s.rows) in rw (s.lo i k, row_at_cong x y i k h) at (f.row_lo i k);
        row_hi = λ i l. let k : i < P.rows = omega (arith, s.rows) in rw (s.hi i k, row_at_cong x y i k h) at (f.row_hi i k);
        bound_l = λ j l. let k : j < P.ropes = omega (arith, s.ropes) in rw (s.l j k, h j k) at (f.bound_l j k);
        bound_u = λ j l. let k : j < P.ropes = omega (arith, s.ropes) in rw (s.u j k, h j k) at (f.bound_u j k);
      }

  pub residual_cong : (p q y w : Vector) (j : ℕ) → j < P.ropes → Agree P.ropes p q → Agree P.rows y w → residual P p y j ≡ residual Q q w j
  unfolding residual
  residual_cong p q y w j l h k = rw (slope_cong p q j l h, weights_cong y w j l k)

  pub slack_cong : (p q y w : Vector) → Agree P.ropes p q → Agree P.rows y w → slack P p y ≡ slack Q q w
  unfolding slack
  slack_cong p q y w h k =
      ap (λ (t : ℤ). t +ℤ ∑ P.ropes by_rope)
      (∑-cong P.rows (λ i. furthest (y i) (row_at P p i) (P.lo i) (P.hi i)) by_row' (λ i l. rw (k i l, row_at_cong p q i l h, s.lo i l, s.hi i l))
      ∙ ap (λ (m : ℕ). ∑ m by_row') s.rows)
      ∙ ap (λ (t : ℤ). ∑ Q.rows by_row' +ℤ t)
      (∑-cong P.ropes by_rope by_rope' (λ j l. rw (residual_cong p q y w j l h k, h j l, s.l j l, s.u j l))
      ∙ ap (λ (n : ℕ). ∑ n by_rope') s.ropes)
    where
      by_row' : Vector
      by_row' i = furthest (w i) (row_at Q q i) (Q.lo i) (Q.hi i)

      by_rope : Vector
      by_rope j = furthest (residual P p y j) (p j) (P.l j) (P.u j)

      by_rope' : Vector
      by_rope' j = furthest (residual Q q w j) (q j) (Q.l j) (Q.u j)

  pub floor_cong : (p q y w : Vector) → Agree P.ropes p q → Agree P.rows y w → floor P p y ≡ floor Q q w
  floor_cong p q y w h k = rw (cost_cong p q h, slack_cong p q y w h k)

  pub most_allowed_cong : (y w : Vector) → Agree P.rows y w → most_allowed P y ≡ most_allowed Q w
  unfolding most_allowed
  most_allowed_cong y w k =
      ∑-cong P.ropes (λ j. highest (a j) (P.l j) (P.u j)) (λ j. highest (b j) (Q.l j) (Q.u j))
      (λ j l. rw (weights_cong y w j l k, s.l j l, s.u j l))
      ∙ ap (λ (n : ℕ). ∑ n (λ j. highest (b j) (Q.l j) (Q.u j))) s.ropes
    where
      a : Vector
      a = column P.rows P.A y

      b : Vector
      b = column Q.rows Q.A w

  pub least_needed_cong : (y w : Vector) → Agree P.rows y w → least_needed P y ≡ least_needed Q w
  unfolding least_needed
  least_needed_cong y w k =
      ∑-cong P.rows (λ i. lowest (y i) (P.lo i) (P.hi i)) (λ i. lowest (w i) (Q.lo i) (Q.hi i)) (λ i l. rw (k i l, s.lo i l, s.hi i l))
      ∙ ap (λ (m : ℕ). ∑ m (λ i. lowest (w i) (Q.lo i) (Q.hi i))) s.rows
