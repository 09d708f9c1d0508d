-- What a job's methods read: its numbers are small, its places are there, and its strides are rows and columns.
use Rattle.std.proofs.Common.{◌≡◌, ℕ, suc, ◌+◌, ◌*◌, ◌^◌, ◌<◌, ◌≤◌, Bool, true, eqb, List, length, ℤ, pos, ◌+ℤ◌, ◌*ℤ◌, nat_abs, Some, None, sym, ap, ◌∙◌, le_refl, mul-le-mul, add_comm, arith, lit<}
use Rattle.std.proofs.lemmas.Bool.{and_from, eq-eqb, le-leb, cond-true}
use Rattle.duality.specs.Lists.{places}
use Rattle.duality.specs.Sums.{Vector, dot, row, column}
use Rattle.duality.specs.Problem.{row_at}
use Rattle.duality.proofs.Sums.{∑-cong}
use Rattle.duality.proofs.Sizes.{small_add, small_mul, small_dot}
use Rattle.duality.proofs.Forms.{dot_comm}
use Rattle.duality.specs.Tests.{within, all_within}
use Rattle.job.specs.Numbers.{problem_of}
use Rattle.job.specs.Points.{gradient}
use Rattle.duality.specs.Tests.{many_within, answer}
use Rattle.job.specs.Strides.{strided, Reads}
use Rattle.job.specs.declared.numbers.Job.{Job}
use Rattle.terms.proofs.Reading.{many_long, many_small, c_small}
use Rattle.terms.proofs.Bits.{back, item_back}
use Rattle.duality.proofs.Tests.{within_at, all_from}

-- a place of row i lies within a table of n rows and m columns
pub place_within : (i n m k : ℕ) → i < n → k < m → i * m + k < n * m
place_within i n m k l h = omega (arith, mul-le-mul {n₁ = suc i} {m₁ = m} {n₂ = n} {m₂ = m} (omega arith) (le_refl m))

module _ (j : Job) where
  pub g_small : (k : ℕ) → nat_abs (places j.g.items k) ≤ 1048576
  g_small k = within_at 1048576 j.g.items k j.matrix.1

  pub a_small : (k : ℕ) → nat_abs (places j.a.items k) ≤ 1048576
  a_small k = within_at 1048576 j.a.items k j.weights.1

  pub g_at : (i k : ℕ) (xs : List ℤ) → xs ≡ j.g.items → back (places xs (i * (problem_of j).ropes + k)) ≡ (problem_of j).G i k
  g_at i k xs e = item_back 1048576 xs j.g.items (i * (problem_of j).ropes + k) e (g_small (i * (problem_of j).ropes + k)) (lit< tt)

module _ (j : Job) (z : List ℤ) (limit : ℕ) (le : limit ≤ 1073741824) (p : many_within (problem_of j).ropes limit z ≡ true) where
  long : length z ≡ (problem_of j).ropes
  long = many_long (problem_of j).ropes limit z p

  few : length z ≤ 16
  few = omega (arith, long, j.terms.some.1)

  small : (k : ℕ) → nat_abs (places z k) ≤ 1073741824
  small k = omega (arith, many_small (problem_of j).ropes limit z p k)

  -- the table ys, as it is lent, is read from start on
  reads : (xs ys : List ℤ) (start stride : ℕ) → xs ≡ ys → ((k : ℕ) → nat_abs (places ys k) ≤ 1048576) →
      ((k : ℕ) → k < (problem_of j).ropes → start + k * stride < length ys) → Reads xs start stride z
  reads xs ys start stride e near there =
      rw e
      (record {
        few = few;
        inside = λ k h. there k (omega (arith, long));
        xs_small = near;
        z_small = small;
      })

  -- m or n as the program asked for them
  pub reads_row : (i m : ℕ) (xs : List ℤ) → i < (problem_of j).rows → m ≡ (problem_of j).rows → xs ≡ j.a.items → Reads xs i m z
  reads_row i m xs l q e =
      rw q (reads xs j.a.items i (problem_of j).rows e (a_small j) (λ k h. omega (arith, place_within k (problem_of j).ropes (problem_of j).rows i h l, j.weights.0)))

  pub row_is : (i m : ℕ) (xs : List ℤ) → m ≡ (problem_of j).rows → xs ≡ j.a.items → dot (length z) (strided xs i m) (places z) ≡ row_at (problem_of j) (places z) i
  row_is i m xs q e =
      rw (q, e, long)
      (∑-cong (problem_of j).ropes (λ k. places j.a.items (i + k * (problem_of j).rows) *ℤ places z k) (λ k. (problem_of j).A i k *ℤ places z k)
      (λ k _. ap (λ (n : ℕ). places j.a.items n *ℤ places z k) (add_comm i (k * (problem_of j).rows))))

  pub reads_along : (i n : ℕ) (xs : List ℤ) → i < (problem_of j).ropes → n ≡ (problem_of j).ropes → xs ≡ j.g.items → Reads xs (i * n) 1 z
  reads_along i n xs l q e =
      rw q
      (reads xs j.g.items (i * (problem_of j).ropes) 1 e (g_small j) (λ k h. omega (arith, place_within i (problem_of j).ropes (problem_of j).ropes k l h, j.matrix.0)))

  pub along_is : (i n : ℕ) (xs : List ℤ) → n ≡ (problem_of j).ropes → xs ≡ j.g.items →
      dot (length z) (strided xs (i * n) 1) (places z) ≡ row (problem_of j).ropes (problem_of j).G (places z) i
  along_is i n xs q e =
      rw (q, e, long)
      (∑-cong (problem_of j).ropes (λ k. places j.g.items (i * (problem_of j).ropes + k * 1) *ℤ places z k) (λ k. (problem_of j).G i k *ℤ places z k)
      (λ k _. ap (λ (n : ℕ). places j.g.items (i * (problem_of j).ropes + n) *ℤ places z k) (once k)))
    where
      once : (k : ℕ) → k * 1 ≡ k
      once k = omega arith

  pub reads_across : (i n : ℕ) (xs : List ℤ) → i < (problem_of j).ropes → n ≡ (problem_of j).ropes → xs ≡ j.g.items → Reads xs i n z
  reads_across i n xs l q e =
      rw q (reads xs j.g.items i (problem_of j).ropes e (g_small j) (λ k h. omega (arith, place_within k (problem_of j).ropes (problem_of j).ropes i h l, j.matrix.0)))

  pub across_is : (i n : ℕ) (xs : List ℤ) → n ≡ (problem_of j).ropes → xs ≡ j.g.items →
      dot (length z) (strided xs i n) (places z) ≡ column (problem_of j).ropes (problem_of j).G (places z) i
  across_is i n xs q e =
      rw (q, e, long)
      (dot_comm (problem_of j).ropes (strided j.g.items i (problem_of j).ropes) (places z)
      ∙ ∑-cong (problem_of j).ropes (λ k. places z k *ℤ places j.g.items (i + k * (problem_of j).ropes)) (λ k. places z k *ℤ (problem_of j).G k i)
      (λ k _. ap (λ (n : ℕ). places z k *ℤ places j.g.items n) (add_comm i (k * (problem_of j).ropes))))

-- the sums over a point within ±limit
pub sum_small : (n p limit : ℕ) (w z : Vector) → n ≤ 16 → ((k : ℕ) → nat_abs (w k) ≤ p) → ((k : ℕ) → nat_abs (z k) ≤ limit) → nat_abs (dot n w z) ≤ 16 * (p * limit)
sum_small n p limit w z h hw hz =
    omega (
      arith,
      small_dot n p limit w z (λ k _. hw k) (λ k _. hz k),
      mul-le-mul {n₁ = n} {m₁ = p * limit} {n₂ = 16} {m₂ = p * limit} h (le_refl (p * limit)),
    )

module _ (j : Job) (z : Vector) where
  pub row_small : (limit i : ℕ) → ((k : ℕ) → nat_abs (z k) ≤ limit) → nat_abs (row_at (problem_of j) z i) ≤ 16 * (1048576 * limit)
  row_small limit i h = sum_small (problem_of j).ropes 1048576 limit ((problem_of j).A i) z j.terms.some.1 (λ k. a_small j (k * (problem_of j).rows + i)) h

  pub along_small : (i : ℕ) → ((k : ℕ) → nat_abs (z k) ≤ 32768) → nat_abs (row (problem_of j).ropes (problem_of j).G z i) ≤ 2 ^ 39
  along_small i h = sum_small (problem_of j).ropes 1048576 32768 ((problem_of j).G i) z j.terms.some.1 (λ k. g_small j (i * (problem_of j).ropes + k)) h

  pub across_small : (i : ℕ) → ((k : ℕ) → nat_abs (z k) ≤ 32768) → nat_abs (column (problem_of j).ropes (problem_of j).G z i) ≤ 2 ^ 39
  across_small i h = omega (arith, sum_small (problem_of j).ropes 32768 1048576 z (λ k. (problem_of j).G k i) j.terms.some.1 h (λ k. g_small j (k * (problem_of j).ropes + i)))

  pub gradient_small : (i : ℕ) → ((k : ℕ) → nat_abs (z k) ≤ 32768) → nat_abs (gradient (problem_of j) z i) ≤ 2 ^ 41
  gradient_small i h =
      let both = small_add (2 ^ 39) (2 ^ 39) (row (problem_of j).ropes (problem_of j).G z i) (column (problem_of j).ropes (problem_of j).G z i) (along_small i h) (across_small i h) in
      let twice = small_mul 2 268435456 (pos 2) ((problem_of j).c i) (omega arith) (c_small j.terms i) in
      omega (
        arith,
        small_add (2 ^ 39 + 2 ^ 39) (2 * 268435456) (row (problem_of j).ropes (problem_of j).G z i +ℤ column (problem_of j).ropes (problem_of j).G z i) (pos 2 *ℤ (problem_of j).c i) both twice,
      )

pub wider : (n : ℕ) (z : List ℤ) → many_within n 32768 z ≡ true → many_within n 1073741824 z ≡ true
wider n z e =
    and_from (eqb (length z) n) (all_within 1073741824 z) (eq-eqb _ _ (many_long n 32768 z e))
    (all_from (λ k. within 1073741824 (places z k)) (length z) (λ k _. le-leb _ _ (omega (arith, many_small n 32768 z e k))))

pub answered : {X : Type 0} (b : Bool) (v w : X) → b ≡ true → w ≡ v → Some w ≡ answer b v
answered b v w e f = ap Some f ∙ sym (cond-true b (Some v) None e)
