-- What is read states the same problem, and fits.
use Rattle.std.proofs.Common.{◌≡◌, ℕ, ◌*◌, Bool, true, false, leb, List, length, ℤ, pos, Some, None, Option, unwrap_or, sym, refl, ap, ◌∙◌, subst, arith}
use Rattle.std.specs.Option.{option_map}
use Rattle.duality.specs.Sums.{Matrix}
use Rattle.duality.specs.Tests.{answer, all_within}
use Rattle.arrayvec.specs.ArrayVec.{ArrayVec}
use Rattle.table.specs.Grid.{Grid, matrix_of}
use Rattle.table.specs.Layers.{flipped}
use Rattle.table.proofs.Bounds.{matrix_near}
use Rattle.table.proofs.Swaps.{flipped_place}
use Rattle.terms.specs.Numbers as terms
use Rattle.terms.specs.declared.numbers.Terms.{Terms}
use Rattle.evaluate.specs.Stated.{stated, problem_of as stated_of}
use Rattle.job.specs.Numbers.{Numbers, numbers, problem}
use Rattle.reading.specs.Plain.{listed, plain, Agrees}
use Rattle.reading.proofs.Listed.{listed_long, listed_at, listed_same, listed_within}

pub plain_agrees : (g a : Grid) (x : terms.Numbers) → Agrees (problem (plain g a x)) (stated g a x)
plain_agrees g a x =
    record {
      same_ropes = refl;
      same_rows = refl;
      same_g = λ i j l m. listed_at x.ropes x.ropes (matrix_of g) i j l m;
      same_c = λ j l. refl;
      same_a = λ i j l m. listed_at x.ropes x.rows (λ k r. matrix_of a r k) j i m l;
      same_lo = λ i l. refl;
      same_hi = λ i l. refl;
      same_l = λ j l. refl;
      same_u = λ j l. refl;
    }

-- what was unwrapped of an answer
pub read_is : (n k room : ℕ) (M : Matrix) (o : Option (ArrayVec ℤ)) (v : ArrayVec ℤ) → option_map (λ w. w.items) o ≡ answer (leb (n * k) room) (listed n k M) → o ≡ Some v →
    v.items ≡ listed n k M
read_is n k room M None v e f = let z : ◌≡◌ {A = ℕ} 0 1 = cc in absurd (omega arith)
read_is n k room M (Some w) v e f = by (leb (n * k) room) e
  where
    by : (b : Bool) → Some w.items ≡ answer b (listed n k M) → v.items ≡ listed n k M
    by true h = cc
    by false h = let z : ◌≡◌ {A = ℕ} 0 1 = cc in absurd (omega arith)

-- it is a matrix as a job keeps it: n and k as the program counts them, p and q those of the job's terms
pub kept : (n k p q : ℕ) (g : Grid) (xs : List ℤ) → xs ≡ listed n k (matrix_of g) → n ≡ p → k ≡ q → (length xs ≡ p * q) × (all_within 1048576 xs ≡ true)
kept n k p q g xs e en ek =
    (ap length e ∙ listed_long n k (matrix_of g) ∙ rw (en, ek) refl, ap (all_within 1048576) e ∙ listed_within 1048576 n k (matrix_of g) (matrix_near g))

flipped_listed : (a : Grid) (n m : ℕ) → listed n m (matrix_of (flipped a)) ≡ listed n m (λ j i. matrix_of a i j)
flipped_listed a n m =
    listed_same n m (matrix_of (flipped a)) (λ j i. matrix_of a i j) (λ j i. ap (λ (o : Option ℤ). unwrap_or o (pos 0)) (flipped_place a j i))

-- n and m as the program counts them, f the table that it reads rope by rope, y what it copied of the terms
pub read_plain : (g a : Grid) (x y : terms.Numbers) (n m : ℕ) (f : Grid) (gs ws : List ℤ) → n ≡ x.ropes → m ≡ x.rows → f ≡ flipped a → y ≡ x →
    gs ≡ listed n n (matrix_of g) → ws ≡ listed n m (matrix_of f) → numbers y gs ws ≡ plain g a x
read_plain g a x y n m f gs ws en em ef ey eg ew =
    ap (λ (t : terms.Numbers). numbers t gs ws) ey
    ∙ ap (λ (v : List ℤ). numbers x v ws) (eg ∙ ap (λ (k : ℕ). listed k k (matrix_of g)) en)
    ∙ ap (numbers x (listed x.ropes x.ropes (matrix_of g)))
    (ew
    ∙ ap (λ (h : Grid). listed n m (matrix_of h)) ef
    ∙ flipped_listed a n m
    ∙ ap (λ (k : ℕ). listed k m (λ j i. matrix_of a i j)) en
    ∙ ap (λ (k : ℕ). listed x.ropes k (λ j i. matrix_of a i j)) em)

pub job_agrees : (g a : Grid) (t : Terms) (x : Numbers) → x ≡ plain g a (terms.numbers_of t) → Agrees (problem x) (stated_of g a t)
job_agrees g a t x e = subst (λ (y : Numbers). Agrees (problem y) (stated_of g a t)) (sym e) (plain_agrees g a (terms.numbers_of t))
