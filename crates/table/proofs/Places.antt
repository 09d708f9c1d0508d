-- Where a place is answered, and what a layer's place is.
use Rattle.std.proofs.Common.{◌≡◌, ℕ, ◌<◌, ◌≤◌, ◌&&◌, ltb, ◌⊎◌, ℤ, Some, None, Decides, Option, sym, refl, ap, ◌∙◌, inl, inr, ⊎_elim, arith}
use Rattle.std.proofs.lemmas.Bool.{and_from, cond-true, cond_both, cases_lt, lt-ltb}
use Rattle.std.proofs.lemmas.Bool.Decides.{Decides-and, Decides-ltb}
use Rattle.table.specs.Grid.{Grid, height_of, width_of, limited, place_of}
use Rattle.table.specs.Layers.{added, summed}
use Rattle.table.proofs.Bounds.{cut_below}

abbrev Inside : Grid → ℕ → ℕ → Type 0
Inside g i j = (i < height_of g) × (j < width_of g)

cases_inside : (g : Grid) (i j : ℕ) → Inside g i j ⊎ (Inside g i j → ⊥)
cases_inside g i j =
    ⊎_elim
    (λ (h : i < height_of g). ⊎_elim (λ (w : j < width_of g). inl (h, w)) (λ (w : width_of g ≤ j). inr (λ p. let q = p.1 in omega arith)) (cases_lt j (width_of g)))
    (λ (h : height_of g ≤ i). inr (λ p. let q = p.0 in omega arith))
    (cases_lt i (height_of g))

pub place_inside : (g : Grid) (i j : ℕ) → i < height_of g → j < width_of g → place_of g i j ≡ limited (g.cell i j)
place_inside g i j h w = cond-true _ _ None (and_from (ltb i (height_of g)) (ltb j (width_of g)) (lt-ltb _ _ h) (lt-ltb _ _ w))

pub place_outside : (g : Grid) (i j : ℕ) → (Inside g i j → ⊥) → place_of g i j ≡ None
place_outside g i j out = cond_both (ltb i (height_of g) && ltb j (width_of g)) (limited (g.cell i j)) None (λ o. o ≡ None) (λ t. absurd (out (decides_inside.0 t))) (λ _. refl)
  where
    decides_inside : Decides (ltb i (height_of g) && ltb j (width_of g)) (Inside g i j)
    decides_inside = Decides-and (ltb i (height_of g)) (ltb j (width_of g)) (Decides-ltb i (height_of g)) (Decides-ltb j (width_of g))

added_none : (o : Option ℤ) → added o None ≡ None
added_none None = refl
added_none (Some z) = refl

-- a sum's place is the sum of the two places, at every place
pub summed_place : (g h : Grid) (i j : ℕ) → place_of (summed g h) i j ≡ limited (added (place_of g i j) (place_of h i j))
summed_place g h i j = ⊎_elim (λ a. ⊎_elim (both a) past_right (cases_inside h i j)) past_left (cases_inside g i j)
  where
    both : Inside g i j → Inside h i j → place_of (summed g h) i j ≡ limited (added (place_of g i j) (place_of h i j))
    both a b = let p = cut_below g.rows in let q = cut_below g.columns in place_inside (summed g h) i j (omega (arith, a, b)) (omega (arith, a, b))

    past_left : (Inside g i j → ⊥) → place_of (summed g h) i j ≡ limited (added (place_of g i j) (place_of h i j))
    past_left out =
        place_outside (summed g h) i j (λ p. let h = p.0 in let w = p.1 in out (omega arith, omega arith))
        ∙ sym (ap (λ (o : Option ℤ). limited (added o (place_of h i j))) (place_outside g i j out))

    past_right : (Inside h i j → ⊥) → place_of (summed g h) i j ≡ limited (added (place_of g i j) (place_of h i j))
    past_right out =
        place_outside (summed g h) i j (λ p. let h = p.0 in let w = p.1 in out (omega arith, omega arith))
        ∙ sym (ap (λ (o : Option ℤ). limited (added (place_of g i j) o)) (place_outside h i j out) ∙ ap limited (added_none (place_of g i j)))
