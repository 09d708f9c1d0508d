-- The numbers of a listing stand at its places.
use Rattle.std.proofs.Common.{◌≡◌, ℕ, ◌+◌, ◌*◌, ◌^◌, ◌<◌, ◌≤◌, true, false, eqb, List, length, ℤ, pos, ◌+ℤ◌, ◌*ℤ◌, nat_abs, is_some, Some, None, Option, unwrap_or, sym, refl, ap, ◌∙◌, le_refl, mul-le-mul, arith, lit<, w64, SFits}
use Rattle.std.proofs.lemmas.Bool.{and_from, both_ways, cond-true, eq-eqb, le-leb}
use Rattle.duality.specs.Lists.{places, by_rows}
use Rattle.duality.specs.Sums.{Vector, Matrix, ∑, dot, row}
use Rattle.duality.specs.Tests.{within, all_within, many_within}
use Rattle.duality.proofs.Sums.{∑-cong, ∑-more}
use Rattle.duality.proofs.Sizes.{small_mul, small_dot}
use Rattle.duality.proofs.Tests.{within_at, all_from}
use Rattle.duality.specs.Problem.{Problem}
use Rattle.table.specs.Grid.{Grid, width_of, place_of, matrix_of, product_of}
use Rattle.table.specs.Layers.{flipped}
use Rattle.table.proofs.Places.{place_inside}
use Rattle.table.proofs.Products.{multiplies_product, product_none}
use Rattle.table.proofs.Swaps.{flipped_place}
use Rattle.terms.proofs.Bits.{back, back_is, product_fits, sum_fits, sum_more}
use Rattle.terms.proofs.Reading.{many_long, many_small}
use Rattle.terms.specs.Numbers.{Numbers}
use Rattle.evaluate.specs.Stated.{stated}
use Rattle.job.specs.Numbers.{problem}
use Rattle.reading.specs.Listings.{listing_grid, Shows, ShowsG, ShowsA}
use Rattle.reading.specs.Plain.{plain, Agrees}
use Rattle.reading.proofs.Stated.{plain_agrees}

module _ (h w : ℕ) (xs : List ℤ) (high : h ≤ 64) (wide : w ≤ 64) where
  pub listing_place : (i j : ℕ) → all_within 1048576 xs ≡ true → i < h → j < w → place_of (listing_grid h w xs) i j ≡ Some (by_rows w xs i j)
  listing_place i j near l m =
      place_inside (listing_grid h w xs) i j (omega arith) (omega arith)
      ∙ cond-true (within 1048576 (by_rows w xs i j)) (Some (by_rows w xs i j)) None (le-leb _ _ (within_at 1048576 xs _ near))

  pub listing_shows : all_within 1048576 xs ≡ true → Shows h w (by_rows w xs) (listing_grid h w xs)
  listing_shows near = record { high = omega arith; wide = omega arith; numbers = λ i j l m. listing_place i j near l m }

  pub listing_shows_down : all_within 1048576 xs ≡ true → Shows w h (λ i j. by_rows w xs j i) (flipped (listing_grid h w xs))
  listing_shows_down near =
      record {
        high = omega arith;
        wide = omega arith;
        numbers = λ i j l m. flipped_place (listing_grid h w xs) i j ∙ listing_place j i near m l;
      }

  -- row i times a list of so many numbers, none too large
  module _ (i : ℕ) (ys : List ℤ) (near : all_within 1048576 xs ≡ true) where
    places_in_row : (j : ℕ) → i < h → j < w → matrix_of (listing_grid h w xs) i j ≡ by_rows w xs i j
    places_in_row j l m = ap (λ (o : Option ℤ). unwrap_or o (pos 0)) (listing_place i j near l m)

    pub listing_product : (s : ℤ) → i < h → many_within w 1073741824 ys ≡ true → s ≡ row w (by_rows w xs) (places ys) i →
        product_of (listing_grid h w xs) i ys ≡ Some s
    listing_product s l p e =
        let n : width_of (listing_grid h w xs) ≡ w = omega arith in
        multiplies_product (listing_grid h w xs) i ys s
        (record {
          inside = omega arith;
          long = many_long w 1073741824 ys p ∙ sym n;
          near = λ j _. many_small w 1073741824 ys p j;
          present = λ j m. ap is_some (listing_place i j near l (omega arith));
          total =
              e
              ∙ ∑-cong w (λ j. by_rows w xs i j *ℤ places ys j) (λ j. matrix_of (listing_grid h w xs) i j *ℤ places ys j)
              (λ j m. ap (λ (v : ℤ). v *ℤ places ys j) (sym (places_in_row j l m)))
              ∙ ap (λ (k : ℕ). ∑ k (λ j. matrix_of (listing_grid h w xs) i j *ℤ places ys j)) (sym n);
        })

    pub no_row : h ≤ i → product_of (listing_grid h w xs) i ys ≡ None
    no_row l = product_none (listing_grid h w xs) i ys (λ s m. let k = m.inside in absurd (omega arith))

    pub no_list : many_within w 1073741824 ys ≡ false → product_of (listing_grid h w xs) i ys ≡ None
    no_list e =
        product_none (listing_grid h w xs) i ys
        (λ s m.
        let n : width_of (listing_grid h w xs) ≡ w = omega arith in
        let long : length ys ≡ w = m.long ∙ n in
        both_ways (many_within w 1073741824 ys) e
        (and_from (eqb (length ys) w) (all_within 1073741824 ys) (eq-eqb _ _ long)
        (all_from (λ k. within 1073741824 (places ys k)) (length ys) (λ k l. le-leb _ _ (m.near k (omega arith))))))

-- a sum along row i, of which j products are done
module _ (h w : ℕ) (xs : List ℤ) (wide : w ≤ 64) (near : all_within 1048576 xs ≡ true) (i : ℕ) (ys : List ℤ) (p : many_within w 1073741824 ys ≡ true) where
  abbrev weights : Vector
  weights = by_rows w xs i

  number_small : (j : ℕ) → nat_abs (weights j) ≤ 1048576
  number_small j = within_at 1048576 xs (i * w + j) near

  number_back : (j : ℕ) → back (weights j) ≡ weights j
  number_back j = back_is 1048576 _ (number_small j) (lit< tt)

  factor_back : (j : ℕ) → back (places ys j) ≡ places ys j
  factor_back j = back_is 1073741824 _ (many_small w 1073741824 ys p j) (lit< tt)

  part_small : (j : ℕ) → nat_abs (weights j *ℤ places ys j) ≤ 2 ^ 61
  part_small j = omega (arith, small_mul 1048576 1073741824 (weights j) (places ys j) (number_small j) (many_small w 1073741824 ys p j))

  so_far_small : (j : ℕ) → j ≤ length ys → nat_abs (dot j weights (places ys)) ≤ 2 ^ 61
  so_far_small j l =
      omega (
        arith,
        small_dot j 1048576 1073741824 weights (places ys) (λ k _. number_small k) (λ k _. many_small w 1073741824 ys p k),
        mul-le-mul {n₁ = j} {m₁ = 1048576 * 1073741824} {n₂ = 64} {m₂ = 1048576 * 1073741824} (omega (arith, many_long w 1073741824 ys p)) (le_refl (1048576 * 1073741824)),
      )

  pub next_product : (j : ℕ) → SFits w64 (back (weights j) *ℤ back (places ys j))
  next_product j = product_fits (pos 0) _ _ (pos 0) (weights j) (places ys j) refl (number_back j) (factor_back j) (omega arith) (part_small j)

  pub next_sum : (j : ℕ) (s : ℤ) → j < length ys → s ≡ dot j weights (places ys) → SFits w64 (s +ℤ back (back (weights j) *ℤ back (places ys j)))
  next_sum j s l e = sum_fits s _ _ (dot j weights (places ys)) (weights j) (places ys j) e (number_back j) (factor_back j) (so_far_small j (omega arith)) (part_small j)

  pub next_is : (j : ℕ) (s : ℤ) → j < length ys → s ≡ dot j weights (places ys) →
      back (s +ℤ back (back (weights j) *ℤ back (places ys j))) ≡ dot (j + 1) weights (places ys)
  next_is j s l e =
      sum_more s _ _ (dot j weights (places ys)) (weights j) (places ys j) e (number_back j) (factor_back j) (so_far_small j (omega arith)) (part_small j)
      ∙ sym (∑-more j (λ k. weights k *ℤ places ys k))

  pub last_is : (j : ℕ) (s : ℤ) → j ≡ length ys → s ≡ dot j weights (places ys) → s ≡ row w (by_rows w xs) (places ys) i
  last_is j s l e = e ∙ ap (λ (k : ℕ). dot k weights (places ys)) (l ∙ many_long w 1073741824 ys p)

pub same_grid : (h w n m : ℕ) (xs ys : List ℤ) → h ≡ n → w ≡ m → xs ≡ ys → listing_grid h w xs ≡ listing_grid n m ys
same_grid h w n m xs ys eh ew e = rw (eh, ew, e) refl

shown : {n m : ℕ} {M : Matrix} {g : Grid} → Shows n m M g → (i j : ℕ) → i < n → j < m → matrix_of g i j ≡ M i j
shown s i j l k = ap (λ (o : Option ℤ). unwrap_or o (pos 0)) (s.numbers i j l k)

-- tables that show the problem that was read from others state the same as those
pub shown_agrees : (g a h b : Grid) (x : Numbers) (P : Problem) → P ≡ problem (plain g a x) → ShowsG P h → ShowsA P b → Agrees (stated h b x) (stated g a x)
shown_agrees g a h b x P e sg sa =
    let r = plain_agrees g a x in
    let n : P.ropes ≡ x.ropes = ap (λ (Q : Problem). Q.ropes) e in
    let m : P.rows ≡ x.rows = ap (λ (Q : Problem). Q.rows) e in
    record {
      same_ropes = refl;
      same_rows = refl;
      same_g = λ i j l k. shown sg i j (omega (arith, n)) (omega (arith, n)) ∙ ap (λ (Q : Problem). Q.G i j) e ∙ r.same_g i j l k;
      same_c = λ j l. refl;
      same_a = λ i j l k. shown sa i j (omega (arith, m)) (omega (arith, n)) ∙ ap (λ (Q : Problem). Q.A i j) e ∙ r.same_a i j l k;
      same_lo = λ i l. refl;
      same_hi = λ i l. refl;
      same_l = λ j l. refl;
      same_u = λ j l. refl;
    }
