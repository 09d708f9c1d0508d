-- One turn of a loop that raises each number by d times its weight.
use Rattle.std.proofs.Common.{◌≡◌, ℕ, ◌+◌, ◌*◌, ◌^◌, ◌<◌, ◌≤◌, ◌≢◌, List, length, set, ℤ, pos, ◌+ℤ◌, ◌*ℤ◌, nat_abs, sym, ap, ◌∙◌, subst, ⊎_elim, arith, lit<, w64, SFits}
use Rattle.std.proofs.lemmas.List.{get_or-set_same, get_or-set_other}
use Rattle.std.proofs.lemmas.Bool.{cases_lt}
use Rattle.arrayvec.specs.ArrayVec.{ArrayVec, with_items}
use Rattle.arrayvec.proofs.ArrayVecLemmas.{items-with_items}
use Rattle.duality.specs.Lists.{places}
use Rattle.duality.specs.Sums.{Vector}
use Rattle.duality.proofs.Sizes.{small_add, small_mul}
use Rattle.terms.proofs.Bits.{back, fits, back_is, small_of, plus_product_fits, plus_product_is}
use Rattle.job.proofs.Reading.{g_small, g_at}
use Rattle.job.specs.Numbers.{problem_of}
use Rattle.job.specs.declared.numbers.Job.{Job}
use Rattle.walk.specs.Running.{Raised}

-- the numbers below i are raised, and the others stand
abbrev pub RaisedBelow : List ℤ → List ℤ → Vector → ℤ → ℕ → Type 0
RaisedBelow xs ys w d i = ((k : ℕ) → k < i → places ys k ≡ places xs k +ℤ w k *ℤ d) × ((k : ℕ) → i ≤ k → places ys k ≡ places xs k)

pub raise_more : (xs ys : List ℤ) (w : Vector) (d v : ℤ) (i : ℕ) → i < length ys → RaisedBelow xs ys w d i → v ≡ places ys i +ℤ w i *ℤ d → RaisedBelow xs (set ys i v) w d (i + 1)
raise_more xs ys w d v i l h e = (
  λ k m.
      ⊎_elim
      (λ (lt : k < i). let ne : k ≢ i = omega arith in get_or-set_other ys i k v (pos 0) ne ∙ h.0 k lt)
      (λ (ge : i ≤ k).
      let q : k ≡ i = omega arith in
      rw q (get_or-set_same ys i v (pos 0) l ∙ e ∙ ap (λ (x : ℤ). x +ℤ w i *ℤ d) (h.1 i (omega arith))))
      (cases_lt k i),
  λ k m. let ne : k ≢ i = omega arith in get_or-set_other ys i k v (pos 0) ne ∙ h.1 k (omega arith),
)

-- what a turn reads and writes: the number x, its weight w and the step d
module _ (x w d : ℤ) (hx : nat_abs x ≤ 2 ^ 41) (hw : nat_abs w ≤ 2097152) (hd : nat_abs d ≤ 16384) where
  weight_small : nat_abs (w *ℤ d) ≤ 2 ^ 35
  weight_small = small_mul 2097152 16384 w d hw hd

  pub raised_small : nat_abs (x +ℤ w *ℤ d) ≤ 2 ^ 42
  raised_small = omega (arith, small_add (2 ^ 41) (2 ^ 35) x (w *ℤ d) hx weight_small)

  pub product_fits : SFits w64 (back w *ℤ back d)
  product_fits = rw (back_is 2097152 w hw (lit< tt), back_is 16384 d hd (lit< tt)) (fits (2 ^ 35) (w *ℤ d) weight_small (lit< tt))

  pub raised_fits : SFits w64 (back x +ℤ back (back w *ℤ back d))
  raised_fits = plus_product_fits x w d (fits (2 ^ 41) x hx (lit< tt)) (fits 2097152 w hw (lit< tt)) (fits 16384 d hd (lit< tt)) (omega (arith, hx)) (omega (arith, weight_small))

  pub raised_is : back (back x +ℤ back (back w *ℤ back d)) ≡ x +ℤ w *ℤ d
  raised_is = plus_product_is x w d (fits (2 ^ 41) x hx (lit< tt)) (fits 2097152 w hw (lit< tt)) (fits 16384 d hd (lit< tt)) (omega (arith, hx)) (omega (arith, weight_small))

pub raised_all : (xs ys : List ℤ) (w : Vector) (d e : ℤ) (i : ℕ) → length ys ≡ length xs → length xs ≤ i → e ≡ d → RaisedBelow xs ys w e i → Raised xs ys w d
raised_all xs ys w d e i long l ed h = record { long = long; each = λ k m. h.0 k (omega arith) ∙ ap (λ (t : ℤ). places xs k +ℤ w k *ℤ t) ed }

-- what a vector of a fixed capacity has once its slice was raised
pub raised_items : (v : ArrayVec ℤ) (xs ys : List ℤ) (w : Vector) (d : ℤ) → xs ≡ v.items → Raised xs ys w d → Raised v.items (with_items v ys).items w d
raised_items v xs ys w d e r =
    subst (λ (zs : List ℤ). Raised v.items zs w d) (sym (items-with_items v ys (r.long ∙ ap length e))) (subst (λ (zs : List ℤ). Raised zs ys w d) e r)

-- a weight of the gradient: what G has for a pair of ropes, both ways
module _ (j : Job) (i k : ℕ) where
  pub pair_small : nat_abs ((problem_of j).G i k +ℤ (problem_of j).G k i) ≤ 2097152
  pair_small =
      small_add 1048576 1048576 ((problem_of j).G i k) ((problem_of j).G k i) (g_small j (i * (problem_of j).ropes + k)) (g_small j (k * (problem_of j).ropes + i))

  -- as it is read, with as many ropes as the program asked for
  module _ (n : ℕ) (xs : List ℤ) (en : n ≡ (problem_of j).ropes) (ex : xs ≡ j.g.items) where
    pub pair_is : back (places xs (i * n + k)) +ℤ back (places xs (k * n + i)) ≡ (problem_of j).G i k +ℤ (problem_of j).G k i
    pair_is =
        let a = g_at j i k xs ex in
        let b = g_at j k i xs ex in
        rw en cc

    pub pair_fits : SFits w64 (back (places xs (i * n + k)) +ℤ back (places xs (k * n + i)))
    pair_fits = fits 2097152 _ (small_of 2097152 _ _ pair_is pair_small) (lit< tt)
