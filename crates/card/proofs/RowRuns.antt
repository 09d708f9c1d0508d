-- A row of a section lies in two runs, so its product is the sum of theirs.
use Rattle.std.proofs.Common.{◌≡◌, ℕ, zero, suc, ◌+◌, ◌-◌, ◌*◌, ◌%◌, ◌<◌, ◌≤◌, min, List, length, take, drop, ℤ, pos, ◌+ℤ◌, ◌*ℤ◌, nat_abs, is_some, Some, None, Option, unwrap_or, sym, refl, ap, ◌∙◌, subst, ⊎_elim, arith}
use Rattle.std.proofs.lemmas.List.{get_or-take, get_or-drop, length-take-le, length-drop}
use Rattle.std.proofs.lemmas.Bool.{cases_lt}
use Rattle.duality.specs.Sums.{Vector, ∑}
use Rattle.duality.specs.Lists.{places}
use Rattle.duality.proofs.Ring.{lin}
use Rattle.duality.proofs.Sums.{∑-more, ∑-cong}
use Rattle.block.specs.Bytes.{number_at}
use Rattle.section.specs.Sections.{spot_of}
use Rattle.table.specs.Grid.{Grid, cut, height_of, width_of, limited, place_of, matrix_of, product_of}
use Rattle.table.specs.Laws.{Multiplies}
use Rattle.table.proofs.Places.{place_inside}
use Rattle.table.proofs.Products.{multiplies_product, product_multiplies, product_none}
use Rattle.card.specs.Grids.{section_grid, run_grid}

-- a sum of a + b terms is that of the first a and that of the others
∑-split : (a b : ℕ) (f : Vector) → ∑ (a + b) f ≡ ∑ a f +ℤ ∑ b (λ k. f (a + k))
∑-split a zero f = let e : a + 0 ≡ a = omega arith in let s : ∑ (a + 0) f ≡ ∑ a f = ap (λ (n : ℕ). ∑ n f) e in omega (arith, lin)
∑-split a (suc b) f =
    let e : a + suc b ≡ a + b + 1 = omega arith in
    let s : ∑ (a + suc b) f ≡ ∑ (a + b) f +ℤ f (a + b) = ap (λ (n : ℕ). ∑ n f) e ∙ ∑-more (a + b) f in
    omega (arith, lin, ∑-split a b f)

-- row i of g is the row of h, and then that of k
pub record Splits (g h k : Grid) (i a b : ℕ) : Type 0 where
  pub inside : i < height_of g
  pub wide : width_of g ≡ a + b
  pub high_h : 0 < height_of h
  pub wide_h : width_of h ≡ a
  pub high_k : 0 < height_of k
  pub wide_k : width_of k ≡ b
  pub left : (j : ℕ) → j < a → place_of g i j ≡ place_of h 0 j
  pub right : (j : ℕ) → j < b → place_of g i (a + j) ≡ place_of k 0 j

module _ (g h k : Grid) (i a b : ℕ) (s : Splits g h k i a b) (xs : List ℤ) (long : length xs ≡ width_of g) where
  places_left : (j : ℕ) → j < a → places (take a xs) j ≡ places xs j
  places_left j l = get_or-take a xs j (pos 0) l

  places_right : (j : ℕ) → places (drop a xs) j ≡ places xs (a + j)
  places_right j = get_or-drop a xs j (pos 0)

  term : Vector
  term j = matrix_of g i j *ℤ places xs j

  sum_left : ∑ a (λ j. matrix_of h 0 j *ℤ places (take a xs) j) ≡ ∑ a (λ j. matrix_of g i j *ℤ places xs j)
  sum_left = ∑-cong a (λ j. matrix_of h 0 j *ℤ places (take a xs) j) (λ j. matrix_of g i j *ℤ places xs j) (λ j l.
      ap (λ (z : ℤ). matrix_of h 0 j *ℤ z) (places_left j l) ∙ ap (λ (o : Option ℤ). unwrap_or o (pos 0) *ℤ places xs j) (sym (s.left j l)))

  sum_right : ∑ b (λ j. matrix_of k 0 j *ℤ places (drop a xs) j) ≡ ∑ b (λ j. matrix_of g i (a + j) *ℤ places xs (a + j))
  sum_right = ∑-cong b (λ j. matrix_of k 0 j *ℤ places (drop a xs) j) (λ j. matrix_of g i (a + j) *ℤ places xs (a + j)) (λ j l.
      ap (λ (z : ℤ). matrix_of k 0 j *ℤ z) (places_right j) ∙ ap (λ (o : Option ℤ). unwrap_or o (pos 0) *ℤ places xs (a + j)) (sym (s.right j l)))

  sum_whole : ∑ (width_of g) (λ j. matrix_of g i j *ℤ places xs j)
      ≡ ∑ a (λ j. matrix_of g i j *ℤ places xs j) +ℤ ∑ b (λ j. matrix_of g i (a + j) *ℤ places xs (a + j))
  sum_whole = ap (λ (n : ℕ). ∑ n (λ j. matrix_of g i j *ℤ places xs j)) s.wide ∙ ∑-split a b (λ j. matrix_of g i j *ℤ places xs j)

  -- both runs have a product, and the row has their sum
  joined : (y z : ℤ) → Multiplies h 0 (take a xs) y → Multiplies k 0 (drop a xs) z → Multiplies g i xs (y +ℤ z)
  joined y z p q =
      let ty : y ≡ ∑ a (λ j. matrix_of g i j *ℤ places xs j) = p.total ∙ (ap (λ (n : ℕ). ∑ n (λ j. matrix_of h 0 j *ℤ places (take a xs) j)) s.wide_h ∙ sum_left) in
      let tz : z ≡ ∑ b (λ j. matrix_of g i (a + j) *ℤ places xs (a + j)) = q.total ∙ (ap (λ (n : ℕ). ∑ n (λ j. matrix_of k 0 j *ℤ places (drop a xs) j)) s.wide_k ∙ sum_right) in
      record {
        inside = s.inside;
        long = long;
        near = λ j l.
            ⊎_elim
            (λ (less : j < a). subst (λ (v : ℤ). nat_abs v ≤ 1073741824) (places_left j less) (p.near j (omega (arith, s.wide_h))))
            (λ (more : a ≤ j).
            let e : a + (j - a) ≡ j = omega arith in
            subst (λ (v : ℤ). nat_abs v ≤ 1073741824) (places_right (j - a) ∙ ap (places xs) e) (q.near (j - a) (omega (arith, s.wide, s.wide_k))))
            (cases_lt j a);
        present = λ j l.
            ⊎_elim
            (λ (less : j < a). ap is_some (s.left j less) ∙ p.present j (omega (arith, s.wide_h)))
            (λ (more : a ≤ j).
            let e : a + (j - a) ≡ j = omega arith in
            ap is_some (sym (ap (place_of g i) e) ∙ s.right (j - a) (omega (arith, s.wide))) ∙ q.present (j - a) (omega (arith, s.wide, s.wide_k)))
            (cases_lt j a);
        total = ap (λ (v : ℤ). v +ℤ z) ty ∙ (ap (λ (v : ℤ). ∑ a (λ j. matrix_of g i j *ℤ places xs j) +ℤ v) tz ∙ sym sum_whole);
      }

  -- where the row has a product, each run has one
  first_too : (y : ℤ) → Multiplies g i xs y → Multiplies h 0 (take a xs) (∑ (width_of h) (λ j. matrix_of h 0 j *ℤ places (take a xs) j))
  first_too y m =
      record {
        inside = s.high_h;
        long = length-take-le a xs (omega (arith, long, s.wide)) ∙ sym s.wide_h;
        near = λ j l.
            let less : j < a = omega (arith, s.wide_h) in
            subst (λ (v : ℤ). nat_abs v ≤ 1073741824) (sym (places_left j less)) (m.near j (omega (arith, s.wide)));
        present = λ j l. let less : j < a = omega (arith, s.wide_h) in sym (ap is_some (s.left j less)) ∙ m.present j (omega (arith, s.wide));
        total = refl;
      }

  second_too : (y : ℤ) → Multiplies g i xs y → Multiplies k 0 (drop a xs) (∑ (width_of k) (λ j. matrix_of k 0 j *ℤ places (drop a xs) j))
  second_too y m =
      record {
        inside = s.high_k;
        long = length-drop a xs ∙ (let e : length xs - a ≡ b = omega (arith, long, s.wide) in e) ∙ sym s.wide_k;
        near = λ j l.
            let less : j < b = omega (arith, s.wide_k) in
            subst (λ (v : ℤ). nat_abs v ≤ 1073741824) (sym (places_right j)) (m.near (a + j) (omega (arith, s.wide)));
        present = λ j l. let less : j < b = omega (arith, s.wide_k) in sym (ap is_some (s.right j less)) ∙ m.present (a + j) (omega (arith, s.wide));
        total = refl;
      }

  pub product_joined : (y z : ℤ) → Some y ≡ product_of h 0 (take a xs) → Some z ≡ product_of k 0 (drop a xs) → Some (y +ℤ z) ≡ product_of g i xs
  product_joined y z p q =
      sym (multiplies_product g i xs (y +ℤ z) (joined y z (product_multiplies h 0 (take a xs) y (sym p)) (product_multiplies k 0 (drop a xs) z (sym q))))

  lacking : (t : Grid) (ys : List ℤ) (v : ℤ) → None ≡ product_of t 0 ys → Multiplies t 0 ys v → ⊥
  lacking t ys v e m = let z : ◌≡◌ {A = Option ℤ} None (Some v) = e ∙ multiplies_product t 0 ys v m in let y : ◌≡◌ {A = ℕ} 0 1 = cc in absurd (omega arith)

  pub product_first : None ≡ product_of h 0 (take a xs) → None ≡ product_of g i xs
  product_first e = sym (product_none g i xs (λ v m. lacking h (take a xs) _ e (first_too v m)))

  pub product_second : None ≡ product_of k 0 (drop a xs) → None ≡ product_of g i xs
  product_second e = sym (product_none g i xs (λ v m. lacking k (drop a xs) _ e (second_too v m)))

-- the two runs of a row of a section of w columns: `here` numbers in the block where the row starts, and the others in the next
module _ (card : List ℕ) (first : ℕ) (rows columns : ℤ) (i w here : ℕ) (inside : i < cut rows) (ew : w ≡ cut columns) (few : w ≤ 64) (eh : here ≡ min w (126 - i * w % 126))
    (xs : List ℤ) (long : length xs ≡ w) where
  run_place : (at count j : ℕ) → count ≤ 64 → j < count → place_of (run_grid card at count) 0 j ≡ limited (number_at card (at + j * 4))
  run_place at count j low l =
      let all : cut (pos count) ≡ count = omega arith in
      place_inside (run_grid card at count) 0 j (omega arith) (omega (arith, all))

  row_splits : Splits (section_grid card first rows columns) (run_grid card (first * 512 + spot_of (i * w)) here) (run_grid card (first * 512 + spot_of (i * w + here)) (w - here)) i here (w - here)
  row_splits =
      let g : Grid = section_grid card first rows columns in
      let same : i * w ≡ i * cut columns = ap (λ (k : ℕ). i * k) ew in
      record {
        inside = inside;
        wide = omega (arith, ew);
        high_h = omega arith;
        wide_h = omega arith;
        high_k = omega arith;
        wide_k = omega arith;
        left = λ j l.
            let spot : first * 512 + spot_of (i * cut columns + j) ≡ first * 512 + spot_of (i * w) + j * 4 = omega arith in
            place_inside g i j inside (omega (arith, ew))
            ∙ (ap (λ (p : ℕ). limited (number_at card p)) spot ∙ sym (run_place (first * 512 + spot_of (i * w)) here j (omega arith) l));
        right = λ j l.
            let spot : first * 512 + spot_of (i * cut columns + (here + j)) ≡ first * 512 + spot_of (i * w + here) + j * 4 = omega arith in
            place_inside g i (here + j) inside (omega (arith, ew))
            ∙ (ap (λ (p : ℕ). limited (number_at card p)) spot ∙ sym (run_place (first * 512 + spot_of (i * w + here)) (w - here) j (omega arith) l));
      }

  -- a run, as the code has it
  run_as : (b : List ℕ) (p q m n : ℕ) (ys : List ℤ) → b ≡ card → p ≡ q → m ≡ n → product_of (run_grid b p m) 0 ys ≡ product_of (run_grid card q n) 0 ys
  run_as b p q m n ys eb ep en =
      ap (λ (v : List ℕ). product_of (run_grid v p m) 0 ys) eb
      ∙ (ap (λ (v : ℕ). product_of (run_grid card v m) 0 ys) ep ∙ ap (λ (v : ℕ). product_of (run_grid card q v) 0 ys) en)

  -- what the two runs answer
  module _ (b : List ℕ) (p m : ℕ) (r : Option ℤ) (e : r ≡ product_of (run_grid b p m) 0 (take here xs)) (eb : b ≡ card) (ep : p ≡ first * 512 + spot_of (i * w)) (em : m ≡ here) where
    first_is : r ≡ product_of (run_grid card (first * 512 + spot_of (i * w)) here) 0 (take here xs)
    first_is = e ∙ run_as b p (first * 512 + spot_of (i * w)) m here (take here xs) eb ep em

    pub row_first : r ≡ None → None ≡ product_of (section_grid card first rows columns) i xs
    row_first f = product_first _ _ _ i here (w - here) row_splits xs (long ∙ ew) (sym f ∙ first_is)

    module _ (c : List ℕ) (q n : ℕ) (t : Option ℤ) (d : t ≡ product_of (run_grid c q n) 0 (drop here xs)) (dc : c ≡ card) (dq : q ≡ first * 512 + spot_of (i * w + here)) (dn : n ≡ w - here) where
      second_is : t ≡ product_of (run_grid card (first * 512 + spot_of (i * w + here)) (w - here)) 0 (drop here xs)
      second_is = d ∙ run_as c q (first * 512 + spot_of (i * w + here)) n (w - here) (drop here xs) dc dq dn

      pub row_second : t ≡ None → None ≡ product_of (section_grid card first rows columns) i xs
      row_second f = product_second _ _ _ i here (w - here) row_splits xs (long ∙ ew) (sym f ∙ second_is)

      pub row_joined : (y z : ℤ) → r ≡ Some y → t ≡ Some z → Some (y +ℤ z) ≡ product_of (section_grid card first rows columns) i xs
      row_joined y z f h = product_joined _ _ _ i here (w - here) row_splits xs (long ∙ ew) y z (sym f ∙ first_is) (sym h ∙ second_is)
