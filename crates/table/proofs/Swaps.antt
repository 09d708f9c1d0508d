-- A flipped table.
use Rattle.std.proofs.Common.{◌≡◌, ℕ, Bool, true, false, cond, ◌&&◌, ltb, List, ℤ, ◌*ℤ◌, is_some, None, Option, sym, refl, ap, ◌∙◌, subst}
use Rattle.duality.specs.Sums.{∑}
use Rattle.duality.specs.Lists.{places}
use Rattle.table.specs.Grid.{Grid, height_of, width_of, limited, place_of, matrix_of, product_of}
use Rattle.table.specs.Laws.{Exactly, Multiplies}
use Rattle.table.specs.Layers.{flipped}
use Rattle.table.specs.LayerLaws.{MultipliesDown, Swapped}
use Rattle.table.proofs.Alikes.{same_sum}
use Rattle.table.proofs.Products.{multiplies_product, product_multiplies}

and_swap : (x y : Bool) → (x && y) ≡ (y && x)
and_swap true true = refl
and_swap true false = refl
and_swap false true = refl
and_swap false false = refl

pub flipped_place : (g : Grid) (i j : ℕ) → place_of (flipped g) i j ≡ place_of g j i
flipped_place g i j = ap (λ (b : Bool). cond b (limited (g.cell j i)) None) (and_swap (ltb i (width_of g)) (ltb j (height_of g)))

column : (g : Grid) (j : ℕ) (xs : List ℤ) → ∑ (height_of g) (λ i. matrix_of (flipped g) j i *ℤ places xs i) ≡ ∑ (height_of g) (λ i. matrix_of g i j *ℤ places xs i)
column g j xs = same_sum (λ i. place_of (flipped g) j i) (λ i. place_of g i j) xs (height_of g) (λ i _. flipped_place g j i)

row_down : (g : Grid) (j : ℕ) (xs : List ℤ) (s : ℤ) → Multiplies (flipped g) j xs s → MultipliesDown g j xs s
row_down g j xs s m =
    record {
      inside = m.inside;
      long = m.long;
      near = m.near;
      present = λ i l. ap is_some (sym (flipped_place g j i)) ∙ m.present i l;
      total = m.total ∙ column g j xs;
    }

down_row : (g : Grid) (j : ℕ) (xs : List ℤ) (s : ℤ) → MultipliesDown g j xs s → Multiplies (flipped g) j xs s
down_row g j xs s m =
    record {
      inside = m.inside;
      long = m.long;
      near = m.near;
      present = λ i l. ap is_some (flipped_place g j i) ∙ m.present i l;
      total = m.total ∙ sym (column g j xs);
    }

pub swapped : (g : Grid) → Swapped g (flipped g)
swapped g =
    record {
      high = refl;
      wide = refl;
      places = flipped_place g;
      products = λ j xs s. (
        λ e. row_down g j xs s (product_multiplies (flipped g) j xs s e),
        λ m. multiplies_product (flipped g) j xs s (down_row g j xs s m),
      );
    }

-- what an answer that equals the product of the flipped row says of the column
pub column_exactly : (g : Grid) (j : ℕ) (xs : List ℤ) (r : Option ℤ) → r ≡ product_of (flipped g) j xs → Exactly (MultipliesDown g j xs) r
column_exactly g j xs r e = subst (Exactly (MultipliesDown g j xs)) (sym e) ((swapped g).products j xs)
