-- When a row can be multiplied with a list, and what comes of it.
use Rattle.std.proofs.Common.{◌≡◌, ℕ, ◌^◌, true, false, ◌&&◌, eqb, ltb, List, length, ℤ, is_some, Some, None, Option, sym, refl, ap, ◌∙◌, subst, ⊎_elim, arith}
use Rattle.std.proofs.lemmas.Bool.{and_parts, and_from, cond-true, cond-false, cases_Bool, lt-ltb, ltb-true, eq-eqb, eqb-true, le-leb}
use Rattle.duality.specs.Sums.{row}
use Rattle.duality.specs.Lists.{places}
use Rattle.table.specs.Grid.{Grid, height_of, width_of, place_of, matrix_of, filled, multipliable, product_of}
use Rattle.duality.specs.Tests.{within, all_within}
use Rattle.table.specs.Laws.{Bounded, Exactly, Multiplies}
use Rattle.table.proofs.Bounds.{cut_below, every_decides, list_near, sum_near}

can_multiplies : (g : Grid) (i : ℕ) (xs : List ℤ) → multipliable g i xs ≡ true → Multiplies g i xs (row (width_of g) (matrix_of g) (places xs) i)
can_multiplies g i xs e =
    let d = and_parts (ltb i (height_of g) && eqb (length xs) (width_of g) && all_within 1073741824 xs) (filled g i) e in
    let c = and_parts (ltb i (height_of g) && eqb (length xs) (width_of g)) (all_within 1073741824 xs) d.0 in
    let b = and_parts (ltb i (height_of g)) (eqb (length xs) (width_of g)) c.0 in
    let long : length xs ≡ width_of g = eqb-true _ _ b.1 in
    record {
      inside = ltb-true _ _ b.0;
      long = long;
      near = λ j h. list_near 1073741824 xs j c.1 (omega arith);
      present = (every_decides (λ j. is_some (place_of g i j)) (width_of g)).0 d.1;
      total = refl;
    }

multiplies_can : (g : Grid) (i : ℕ) (xs : List ℤ) (s : ℤ) → Multiplies g i xs s → multipliable g i xs ≡ true
multiplies_can g i xs s m =
    and_from (ltb i (height_of g) && eqb (length xs) (width_of g) && all_within 1073741824 xs) (filled g i)
    (and_from (ltb i (height_of g) && eqb (length xs) (width_of g)) (all_within 1073741824 xs)
    (and_from (ltb i (height_of g)) (eqb (length xs) (width_of g)) (lt-ltb _ _ m.inside) (eq-eqb _ _ m.long))
    ((every_decides (λ j. within 1073741824 (places xs j)) (length xs)).1 (λ j h. le-leb _ _ (m.near j (let l : length xs ≡ width_of g = m.long in omega arith)))))
    ((every_decides (λ j. is_some (place_of g i j)) (width_of g)).1 m.present)

pub multiplies_product : (g : Grid) (i : ℕ) (xs : List ℤ) (s : ℤ) → Multiplies g i xs s → product_of g i xs ≡ Some s
multiplies_product g i xs s m = cond-true (multipliable g i xs) _ None (multiplies_can g i xs s m) ∙ ap (λ (z : ℤ). Some z) (sym m.total)

pub product_multiplies : (g : Grid) (i : ℕ) (xs : List ℤ) (s : ℤ) → product_of g i xs ≡ Some s → Multiplies g i xs s
product_multiplies g i xs s e = ⊎_elim given refused (cases_Bool (multipliable g i xs))
  where
    given : multipliable g i xs ≡ true → Multiplies g i xs s
    given t =
        let p : product_of g i xs ≡ Some (row (width_of g) (matrix_of g) (places xs) i) = cond-true (multipliable g i xs) _ None t in
        let q : row (width_of g) (matrix_of g) (places xs) i ≡ s = cc in
        let m = can_multiplies g i xs t in
        record { inside = m.inside; long = m.long; near = m.near; present = m.present; total = sym q }

    refused : multipliable g i xs ≡ false → Multiplies g i xs s
    refused t =
        let p : product_of g i xs ≡ None = cond-false (multipliable g i xs) (Some (row (width_of g) (matrix_of g) (places xs) i)) None t in
        let z : ◌≡◌ {A = ℕ} 0 1 = cc in
        absurd (omega arith)

pub product_exactly : (g : Grid) (i : ℕ) (xs : List ℤ) → Exactly (Multiplies g i xs) (product_of g i xs)
product_exactly g i xs s = (product_multiplies g i xs s, multiplies_product g i xs s)

-- where nothing can be the product, none is answered
pub product_none : (g : Grid) (i : ℕ) (xs : List ℤ) → ((s : ℤ) → Multiplies g i xs s → ⊥) → product_of g i xs ≡ None
product_none g i xs never = none (product_of g i xs) (product_multiplies g i xs)
  where
    none : (o : Option ℤ) → ((s : ℤ) → o ≡ Some s → Multiplies g i xs s) → o ≡ None
    none None f = refl
    none (Some s) f = absurd (never s (f s refl))

pub product_near : (g : Grid) (i : ℕ) (xs : List ℤ) → Bounded (2 ^ 56) (product_of g i xs)
product_near g i xs = near (product_of g i xs) (product_multiplies g i xs)
  where
    near : (o : Option ℤ) → ((s : ℤ) → o ≡ Some s → Multiplies g i xs s) → Bounded (2 ^ 56) o
    near None f = tt
    near (Some s) f =
        let m = f s refl in
        let b = sum_near g i (width_of g) xs m.near in
        let w = cut_below g.columns in
        rw m.total (omega arith)

-- what an answer that equals the product owes besides
pub product_lawful : (g : Grid) (i : ℕ) (xs : List ℤ) (r : Option ℤ) → r ≡ product_of g i xs → Bounded (2 ^ 56) r × Exactly (Multiplies g i xs) r
product_lawful g i xs r e = (subst (Bounded (2 ^ 56)) (sym e) (product_near g i xs), subst (Exactly (Multiplies g i xs)) (sym e) (product_exactly g i xs))
