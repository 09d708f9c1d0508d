-- What fits does so by the answers of its tables: tables with the same answers fit as well.
use Rattle.std.proofs.Common.{◌≡◌, ℕ, ◌≤◌, true, ◌⊎◌, ℤ, pos, nat_abs, is_some, Option, unwrap_or, sym, ap, ◌∙◌, subst, inl, inr, ⊎_elim, arith}
use mathlib.Core.Path.{fun_ext}
use Rattle.duality.specs.Convex.{Symmetric, SlipHolds}
use Rattle.duality.specs.Lists.{by_rows}
use Rattle.duality.specs.Sums.{Matrix}
use Rattle.table.specs.Grid.{Grid, height_of, width_of, place_of, matrix_of}
use Rattle.opening.specs.Fits.{Filled, Long, Fits}
use Rattle.opening.specs.Opening.{Numbers}

filled_moved : (limit : ℕ) (t h : Grid) → height_of h ≡ height_of t → (height_of t ≡ 0) ⊎ (width_of h ≡ width_of t) → ((i j : ℕ) → place_of h i j ≡ place_of t i j) → Filled limit t
    → Filled limit h
filled_moved limit t h high wide same full i j hi hj =
    ⊎_elim
    (λ (none : height_of t ≡ 0). absurd (omega arith))
    (λ (as_wide : width_of h ≡ width_of t).
    subst (λ (o : Option ℤ). (is_some o ≡ true) × (nat_abs (unwrap_or o (pos 0)) ≤ limit)) (sym (same i j)) (full i j (omega arith) (omega arith)))
    wide

pub fits_moved : (g a h b : Grid) (x : Numbers)
    → height_of h ≡ height_of g → width_of h ≡ width_of g → ((i j : ℕ) → place_of h i j ≡ place_of g i j)
    → height_of b ≡ height_of a → (height_of a ≡ 0) ⊎ (width_of b ≡ width_of a) → ((i j : ℕ) → place_of b i j ≡ place_of a i j)
    → Fits g a x → Fits h b x
fits_moved g a h b x hg wg pg ha wa pa f =
    let s = f.sized in
    let some = s.some_ropes in
    let few = s.few_ropes in
    let square = s.square in
    let short = s.few_rows in
    let M : matrix_of g ≡ matrix_of h = fun_ext (λ i. fun_ext (λ j. ap (λ (o : Option ℤ). unwrap_or o (pos 0)) (sym (pg i j)))) in
    record {
      sized =
          record {
            some_ropes = omega arith;
            few_ropes = omega arith;
            square = wg ∙ square ∙ sym hg;
            few_rows = omega arith;
            across =
                ⊎_elim
                (λ (none : height_of a ≡ 0). inl (ha ∙ none))
                (λ (wide : width_of b ≡ width_of a).
                ⊎_elim (λ (none : height_of a ≡ 0). inl (ha ∙ none)) (λ (level : width_of a ≡ height_of g). inr (wide ∙ level ∙ sym hg)) s.across)
                wa;
          };
      curved = filled_moved 4096 g h hg (inr wg) pg f.curved;
      lined = filled_moved 1024 a b ha wa pa f.lined;
      symmetric = subst (λ (k : ℕ). Symmetric k (matrix_of h)) (sym hg) (subst (λ (N : Matrix). Symmetric (height_of g) N) M f.symmetric);
      long = subst (λ (k : ℕ). Long k (height_of b) x) (sym hg) (subst (λ (k : ℕ). Long (height_of g) k x) (sym ha) f.long);
      limited = f.limited;
      bounds_open = f.bounds_open;
      limits_open = f.limits_open;
      slip_holds =
          subst (λ (k : ℕ). SlipHolds k (matrix_of h) (by_rows k x.slip)) (sym hg)
          (subst (λ (N : Matrix). SlipHolds (height_of g) N (by_rows (height_of g) x.slip)) M f.slip_holds);
    }
