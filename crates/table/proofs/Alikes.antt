-- Grids that agree in sizes and places agree in products too.
use Rattle.std.proofs.Common.{◌≡◌, ℕ, ◌<◌, List, ℤ, pos, ◌*ℤ◌, is_some, Some, None, Option, unwrap_or, sym, refl, ap, ◌∙◌, arith}
use Rattle.duality.specs.Sums.{∑}
use Rattle.duality.proofs.Sums.{∑-cong}
use Rattle.duality.specs.Lists.{places}
use Rattle.table.specs.Grid.{Grid, height_of, width_of, place_of, matrix_of, product_of}
use Rattle.table.specs.Laws.{Multiplies, Alike}
use Rattle.table.proofs.Products.{multiplies_product, product_multiplies, product_none}

pub same_sum : (o p : ℕ → Option ℤ) (xs : List ℤ) (n : ℕ) → ((j : ℕ) → j < n → o j ≡ p j)
    → ∑ n (λ j. unwrap_or (o j) (pos 0) *ℤ places xs j) ≡ ∑ n (λ j. unwrap_or (p j) (pos 0) *ℤ places xs j)
same_sum o p xs n same =
    ∑-cong n (λ j. unwrap_or (o j) (pos 0) *ℤ places xs j) (λ j. unwrap_or (p j) (pos 0) *ℤ places xs j)
    (λ j l. ap (λ (v : Option ℤ). unwrap_or v (pos 0) *ℤ places xs j) (same j l))

multiplies_row : (g h : Grid) (i k : ℕ) (xs : List ℤ) (s : ℤ) → (i < height_of g → k < height_of h) → width_of g ≡ width_of h
    → ((j : ℕ) → j < width_of g → place_of g i j ≡ place_of h k j) → Multiplies g i xs s → Multiplies h k xs s
multiplies_row g h i k xs s inside wide same_place m =
    record {
      inside = inside m.inside;
      long = m.long ∙ wide;
      near = λ j l. m.near j (omega arith);
      present = λ j l. let n : j < width_of g = omega arith in ap is_some (sym (same_place j n)) ∙ m.present j n;
      total =
          m.total
          ∙ same_sum (place_of g i) (place_of h k) xs (width_of g) same_place
          ∙ ap (λ (n : ℕ). ∑ n (λ j. matrix_of h k j *ℤ places xs j)) wide;
    }

-- rows of two grids with the same places have the same products
pub same_product : (g h : Grid) (i k : ℕ) (xs : List ℤ) → (i < height_of g → k < height_of h) → (k < height_of h → i < height_of g) → width_of g ≡ width_of h
    → ((j : ℕ) → j < width_of g → place_of g i j ≡ place_of h k j) → product_of g i xs ≡ product_of h k xs
same_product g h i k xs there back wide same_place = same (product_of g i xs) (product_multiplies g i xs) refl
  where
    same : (o : Option ℤ) → ((s : ℤ) → o ≡ Some s → Multiplies g i xs s) → product_of g i xs ≡ o → o ≡ product_of h k xs
    same (Some s) f e = sym (multiplies_product h k xs s (multiplies_row g h i k xs s there wide same_place (f s refl)))
    same None f e =
        sym (product_none h k xs (λ s m.
        let p = multiplies_product g i xs s (multiplies_row h g k i xs s back (sym wide) (λ j l. sym (same_place j (omega arith))) m) in
        let z : ◌≡◌ {A = ℕ} 0 1 = cc in
        omega arith))

pub alike : (g h : Grid) → height_of g ≡ height_of h → width_of g ≡ width_of h → ((i j : ℕ) → place_of g i j ≡ place_of h i j) → Alike g h
alike g h high wide same_place =
    record {
      high = high;
      wide = wide;
      places = same_place;
      products = λ i xs. same_product g h i i xs (λ l. omega arith) (λ l. omega arith) wide (λ j _. same_place i j);
    }

pub alike_self : (g : Grid) → Alike g g
alike_self g = alike g g refl refl (λ i j. refl)
