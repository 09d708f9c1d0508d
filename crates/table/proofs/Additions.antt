-- A sum of two tables.
use Rattle.std.proofs.Common.{◌≡◌, ℕ, min, Bool, true, false, cond, List, ℤ, pos, ◌+ℤ◌, ◌*ℤ◌, is_some, Some, None, Option, unwrap_or, sym, refl, ap, ◌∙◌, arith}
use lib.IntN.{+ℤ_comm}
use Rattle.std.proofs.lemmas.Bool.{false≢true}
use Rattle.duality.specs.Sums.{∑}
use Rattle.duality.proofs.Ring.{*ℤ-distr}
use Rattle.duality.proofs.Sums.{∑-cong, ∑-add}
use Rattle.duality.specs.Lists.{places}
use Rattle.table.specs.Grid.{Grid, height_of, width_of, limited, place_of, matrix_of}
use Rattle.duality.specs.Tests.{within}
use Rattle.table.specs.Laws.{Multiplies, Alike}
use Rattle.table.specs.Layers.{added, summed}
use Rattle.table.specs.LayerLaws.{AddedUp}
use Rattle.table.proofs.Alikes.{alike}
use Rattle.table.proofs.Bounds.{cut_below}
use Rattle.table.proofs.Places.{summed_place}

summed_high : (g h : Grid) → height_of (summed g h) ≡ min (height_of g) (height_of h)
summed_high g h = let b = cut_below g.rows in omega arith

summed_wide : (g h : Grid) → width_of (summed g h) ≡ min (width_of g) (width_of h)
summed_wide g h = let b = cut_below g.columns in omega arith

-- a sum that is no blank is that of the two numbers
whole : (o p : Option ℤ) → is_some (limited (added o p)) ≡ true → unwrap_or (limited (added o p)) (pos 0) ≡ unwrap_or o (pos 0) +ℤ unwrap_or p (pos 0)
whole None p t = absurd (false≢true t)
whole (Some x) None t = absurd (false≢true t)
whole (Some x) (Some y) t = kept (within 1048576 (x +ℤ y)) t
  where
    kept : (b : Bool) → is_some (cond b (Some (x +ℤ y)) None) ≡ true → unwrap_or (cond b (Some (x +ℤ y)) None) (pos 0) ≡ x +ℤ y
    kept true t = refl
    kept false t = absurd (false≢true t)

entries : (g h : Grid) (i j : ℕ) → is_some (place_of (summed g h) i j) ≡ true → matrix_of (summed g h) i j ≡ matrix_of g i j +ℤ matrix_of h i j
entries g h i j t =
    ap (λ (o : Option ℤ). unwrap_or o (pos 0)) (summed_place g h i j)
    ∙ whole (place_of g i j) (place_of h i j) (ap is_some (sym (summed_place g h i j)) ∙ t)

products : (g h : Grid) (i : ℕ) (xs : List ℤ) (a b c : ℤ) → Multiplies g i xs a → Multiplies h i xs b → Multiplies (summed g h) i xs c → c ≡ a +ℤ b
products g h i xs a b c p q m =
    let n = width_of (summed g h) in
    let wg : n ≡ width_of g = sym m.long ∙ p.long in
    let wh : n ≡ width_of h = sym m.long ∙ q.long in
    m.total
    ∙ ∑-cong n (λ j. matrix_of (summed g h) i j *ℤ places xs j) (λ j. (matrix_of g i j *ℤ places xs j) +ℤ (matrix_of h i j *ℤ places xs j))
    (λ j l. ap (λ (z : ℤ). z *ℤ places xs j) (entries g h i j (m.present j l)) ∙ *ℤ-distr (matrix_of g i j) (matrix_of h i j) (places xs j))
    ∙ ∑-add n (λ j. matrix_of g i j *ℤ places xs j) (λ j. matrix_of h i j *ℤ places xs j)
    ∙ ap (λ (z : ℤ). z +ℤ ∑ n (λ j. matrix_of h i j *ℤ places xs j)) (ap (λ (k : ℕ). ∑ k (λ j. matrix_of g i j *ℤ places xs j)) wg ∙ sym p.total)
    ∙ ap (λ (z : ℤ). a +ℤ z) (ap (λ (k : ℕ). ∑ k (λ j. matrix_of h i j *ℤ places xs j)) wh ∙ sym q.total)

pub added_up : (g h : Grid) → AddedUp g h (summed g h)
added_up g h = record { high = summed_high g h; wide = summed_wide g h; places = summed_place g h; products = products g h }

added_swap : (o p : Option ℤ) → added o p ≡ added p o
added_swap None None = refl
added_swap None (Some y) = refl
added_swap (Some x) None = refl
added_swap (Some x) (Some y) = ap (λ (z : ℤ). Some z) (+ℤ_comm x y)

pub summed_order : (g h : Grid) → Alike (summed g h) (summed h g)
summed_order g h =
    alike (summed g h) (summed h g)
    (let p = summed_high g h in let q = summed_high h g in omega arith)
    (let p = summed_wide g h in let q = summed_wide h g in omega arith)
    (λ i j. summed_place g h i j ∙ ap limited (added_swap (place_of g i j) (place_of h i j)) ∙ sym (summed_place h g i j))
