-- The sums of the slip's test: how large they are, and a loop's step.
use Rattle.std.proofs.Common.{◌≡◌, ℕ, ◌+◌, ◌*◌, ◌^◌, ◌<◌, ◌≤◌, eqb, List, ℤ, pos, ◌+ℤ◌, ◌-ℤ◌, ◌*ℤ◌, neg_ℤ, nat_abs, sym, ap, ◌∙◌, ◌-◌, length, drop, ◌++◌, get_or, ⊎_elim, suc, suc-mul, le_refl, mul-le-mul, arith, w64, SFits}
use Rattle.std.proofs.lemmas.Int.{to_z-of_z}
use Rattle.std.proofs.lemmas.Bool.{cases_lt, cond_both}
use Rattle.std.proofs.lemmas.List.{length-drop, length-append, get_or_append_left, get_or-drop, drop-drop}
use Rattle.std.proofs.Math.Seq.{drop-append_seam}
use Rattle.duality.specs.Convex.{remainder, beside}
use Rattle.duality.specs.Lists.{by_rows}
use Rattle.duality.specs.Sums.{Matrix, ∑, absℤ}
use Rattle.duality.proofs.Sizes.{nat_abs_neg, small_sub, small_mul, small-∑}
use Rattle.duality.proofs.Sums.{∑-more}
use Rattle.duality.proofs.Tests.{within_at}
use Rattle.table.specs.Grid.{Grid, matrix_of}
use Rattle.table.proofs.Bounds.{matrix_near}
use Rattle.opening.specs.Opening.{gram_of, SlipNumbers}
use Rattle.terms.proofs.Bits.{back, fits, back_is, back_of}

module _ (n : ℕ) (slip : List ℤ) (h : SlipNumbers n slip) where
  abbrev L : Matrix
  L = by_rows n slip

  abbrev term : ℕ → ℕ → ℕ → ℤ
  term i j k = L k i *ℤ L k j

  pub place_small : (k i : ℕ) → nat_abs (L k i) ≤ 131072
  place_small k i = within_at 131072 slip (k * n + i) h.near

  place_back : (k i : ℕ) → back (L k i) ≡ L k i
  place_back k i = back_is 131072 (L k i) (place_small k i) (omega arith)

  term_small : (i j k : ℕ) → nat_abs (term i j k) ≤ 2 ^ 34
  term_small i j k = small_mul 131072 131072 (L k i) (L k j) (place_small k i) (place_small k j)

  part_small : (i j k : ℕ) → k ≤ n → nat_abs (∑ k (term i j)) ≤ 2 ^ 38
  part_small i j k l =
      omega (
        arith,
        small-∑ k (2 ^ 34) (term i j) (λ a _. term_small i j a),
        mul-le-mul {n₁ = k} {m₁ = 2 ^ 34} {n₂ = 16} {m₂ = 2 ^ 34} (omega (arith, h.few)) (le_refl (2 ^ 34)),
      )

  pub gram_small : (i j : ℕ) → nat_abs (gram_of n L i j) ≤ 2 ^ 38
  gram_small i j = part_small i j n (le_refl n)

  left : (k : ℕ) (rest : List ℤ) → rest ≡ drop (k * n) slip → length rest ≡ n * n - k * n
  left k rest at = ap length at ∙ length-drop (k * n) slip ∙ ap (λ (m : ℕ). m - k * n) h.long

  -- where less than a row is left of the slip, every row was cut off
  pub rows_end : (k : ℕ) (rest : List ℤ) → rest ≡ drop (k * n) slip → length rest < n → k ≤ n → k ≡ n
  rows_end k rest at short few =
      ⊎_elim
      (λ (lt : k < n).
      let p : suc k * n ≤ n * n = mul-le-mul {n₁ = suc k} {m₁ = n} {n₂ = n} {m₂ = n} (omega arith) (le_refl n) in
      let a : length rest ≡ n * n - k * n = left k rest at in
      absurd (omega (arith, suc-mul k n)))
      (λ (le : n ≤ k). omega arith)
      (cases_lt k n)

  -- one row more of the slip, as it is cut off its front
  module _ (i j k : ℕ) (li : i < n) (lj : j < n) (r rest next : List ℤ) (at : rest ≡ drop (k * n) slip) (cut : rest ≡ r ++ next) (long : length r ≡ n) where
    pub row_inside : k < n
    row_inside =
        ⊎_elim
        (λ (lt : k < n). lt)
        (λ (le : n ≤ k).
        let p : n * n ≤ k * n = mul-le-mul {n₁ = n} {m₁ = n} {n₂ = k} {m₂ = n} le (le_refl n) in
        let a : length rest ≡ n * n - k * n = left k rest at in
        let b : length rest ≡ length r + length next = ap length cut ∙ length-append r next in
        absurd (omega arith))
        (cases_lt k n)

    pub row_past : next ≡ drop ((k + 1) * n) slip
    row_past =
        let e : drop (length r) rest ≡ next = ap (drop (length r)) cut ∙ drop-append_seam r next in
        let f : drop n (drop (k * n) slip) ≡ drop (k * n + n) slip = drop-drop n (k * n) slip in
        let m : k * n + n ≡ (k + 1) * n = omega arith in
        sym e ∙ ap (λ (c : ℕ). drop c rest) long ∙ ap (drop n) at ∙ f ∙ ap (λ (c : ℕ). drop c slip) m

    place_of_row : (c : ℕ) → c < n → get_or r c (pos 0) ≡ L k c
    place_of_row c l =
        let inside : c < length r = omega arith in
        sym (get_or_append_left r next (pos 0) c inside) ∙ ap (λ (xs : List ℤ). get_or xs c (pos 0)) (sym cut ∙ at) ∙ get_or-drop (k * n) slip c (pos 0)

    place_of_row_back : (c : ℕ) → c < n → back (get_or r c (pos 0)) ≡ L k c
    place_of_row_back c l = ap back (place_of_row c l) ∙ place_back k c

    pub product_fits : SFits w64 (back (get_or r i (pos 0)) *ℤ back (get_or r j (pos 0)))
    product_fits = rw (place_of_row_back i li, place_of_row_back j lj) (fits (2 ^ 34) (term i j k) (term_small i j k) (omega arith))

    product_back : back (back (get_or r i (pos 0)) *ℤ back (get_or r j (pos 0))) ≡ term i j k
    product_back = rw (place_of_row_back i li, place_of_row_back j lj) (back_is (2 ^ 34) (term i j k) (term_small i j k) (omega arith))

    module _ (s : ℤ) (e : s ≡ ∑ k (term i j)) where
      gram_whole : s +ℤ back (back (get_or r i (pos 0)) *ℤ back (get_or r j (pos 0))) ≡ ∑ (k + 1) (term i j)
      gram_whole = rw (product_back, e) (sym (∑-more k (term i j)))

      pub gram_fits : SFits w64 (s +ℤ back (back (get_or r i (pos 0)) *ℤ back (get_or r j (pos 0))))
      gram_fits = let l : k < n = row_inside in rw gram_whole (fits (2 ^ 38) (∑ (k + 1) (term i j)) (part_small i j (k + 1) (omega arith)) (omega arith))

      pub gram_more : back (s +ℤ back (back (get_or r i (pos 0)) *ℤ back (get_or r j (pos 0)))) ≡ ∑ (k + 1) (term i j)
      gram_more = to_z-of_z w64 _ gram_fits ∙ gram_whole

  module _ (g : Grid) where
    abbrev R : Matrix
    R = remainder n (matrix_of g) L

    scaled_small : (i j : ℕ) → nat_abs (pos 1048576 *ℤ matrix_of g i j) ≤ 2 ^ 40
    scaled_small i j = small_mul 1048576 1048576 (pos 1048576) (matrix_of g i j) (omega arith) (matrix_near g i j)

    pub remainder_small : (i j : ℕ) → nat_abs (R i j) ≤ 2 ^ 41
    unfolding remainder
    remainder_small i j =
        omega (arith, small_sub (2 ^ 40) (2 ^ 38) (pos 1048576 *ℤ matrix_of g i j) (gram_of n L i j) (scaled_small i j) (gram_small i j))

    module _ (i j : ℕ) (x s : ℤ) (ex : x ≡ matrix_of g i j) (es : s ≡ gram_of n L i j) where
      number_back : back x ≡ matrix_of g i j
      number_back = back_of 1048576 x (matrix_of g i j) ex (matrix_near g i j) (omega arith)

      gram_back : back s ≡ gram_of n L i j
      gram_back = back_of (2 ^ 38) s (gram_of n L i j) es (gram_small i j) (omega arith)

      pub scaled_fits : SFits w64 (pos 1048576 *ℤ back x)
      scaled_fits = rw number_back (fits (2 ^ 40) (pos 1048576 *ℤ matrix_of g i j) (scaled_small i j) (omega arith))

      scaled_back : back (pos 1048576 *ℤ back x) ≡ pos 1048576 *ℤ matrix_of g i j
      scaled_back = to_z-of_z w64 (pos 1048576 *ℤ back x) scaled_fits ∙ ap (λ (v : ℤ). pos 1048576 *ℤ v) number_back

      difference : back (pos 1048576 *ℤ back x) -ℤ back s ≡ R i j
      unfolding remainder
      difference = ap (λ (v : ℤ). v -ℤ back s) scaled_back ∙ ap (λ (v : ℤ). pos 1048576 *ℤ matrix_of g i j -ℤ v) gram_back

      pub remainder_fits : SFits w64 (back (pos 1048576 *ℤ back x) -ℤ back s)
      remainder_fits = rw difference (fits (2 ^ 41) (R i j) (remainder_small i j) (omega arith))

      pub remainder_is : back (back (pos 1048576 *ℤ back x) -ℤ back s) ≡ R i j
      remainder_is = to_z-of_z w64 _ remainder_fits ∙ difference

    pub remainder_back : (i j : ℕ) (r : ℤ) → r ≡ R i j → back r ≡ R i j
    remainder_back i j r e = back_of (2 ^ 41) r (R i j) e (remainder_small i j) (omega arith)

    pub negated_fits : (i j : ℕ) (r : ℤ) → r ≡ R i j → SFits w64 (neg_ℤ (back r))
    negated_fits i j r e =
        rw (remainder_back i j r e) (fits (2 ^ 41) (neg_ℤ (R i j)) (omega (arith, nat_abs_neg (R i j), remainder_small i j)) (omega arith))

    pub beside_small : (i j : ℕ) → nat_abs (beside R i j) ≤ 2 ^ 41
    beside_small i j = cond_both (eqb i j) (pos 0) (absℤ (R i j)) (λ v. nat_abs v ≤ 2 ^ 41) (λ _. omega arith) (λ _. remainder_small i j)

    around_part : (i k : ℕ) → k ≤ n → nat_abs (∑ k (beside R i)) ≤ 2 ^ 45
    around_part i k l =
        omega (
          arith,
          small-∑ k (2 ^ 41) (beside R i) (λ j _. beside_small i j),
          mul-le-mul {n₁ = k} {m₁ = 2 ^ 41} {n₂ = 16} {m₂ = 2 ^ 41} (omega (arith, h.few)) (le_refl (2 ^ 41)),
        )

    module _ (i k : ℕ) (l : k < n) (s b : ℤ) (es : s ≡ ∑ k (beside R i)) (eb : b ≡ beside R i k) where
      whole : s +ℤ back b ≡ ∑ (k + 1) (beside R i)
      whole =
          ap (λ (v : ℤ). v +ℤ back b) es
          ∙ ap (λ (v : ℤ). ∑ k (beside R i) +ℤ v) (back_of (2 ^ 41) b (beside R i k) eb (beside_small i k) (omega arith))
          ∙ sym (∑-more k (beside R i))

      pub around_fits : SFits w64 (s +ℤ back b)
      around_fits = rw whole (fits (2 ^ 45) (∑ (k + 1) (beside R i)) (around_part i (k + 1) (omega arith)) (omega arith))

      pub around_more : back (s +ℤ back b) ≡ ∑ (k + 1) (beside R i)
      around_more = to_z-of_z w64 _ around_fits ∙ whole
