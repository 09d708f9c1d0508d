-- What is named is at fault.
use Rattle.std.proofs.Common.{◌≡◌, ℕ, zero, suc, ◌<◌, Bool, true, false, cond, eqb, ◌⊎◌, length, ℤ, pos, nat_abs, ◌<ℤ◌, IfSome, Some, None, Option, unwrap_or, sym, refl, ap, ◌∙◌, Result, inl, inr, ⊎_elim, arith}
use lib.Signed.{le_z}
use Rattle.std.proofs.lemmas.Int.{ints}
use Rattle.std.proofs.lemmas.Bool.{both_ways, cases_order, leb-false, eqb-false}
use Rattle.std.specs.Option.{option_or, option_map}
use Rattle.duality.specs.Convex.{remainder}
use Rattle.duality.specs.Lists.{places, by_rows}
use Rattle.duality.specs.Tests.{first_not, or_here, within}
use Rattle.duality.proofs.Tests.{first_none}
use Rattle.table.specs.Grid.{Grid, height_of, width_of, place_of, matrix_of}
use Rattle.opening.specs.Faults.{list_of, length_for, limit_for, Unfilled, AtFault, Truly}
use Rattle.std.specs.Result.{result_err}
use Rattle.opening.specs.Firsts.{first_of, unless}
use Rattle.opening.specs.Fits.{TellsFit}
use Rattle.opening.specs.Opening.{Numbers, is_square, is_lined, size_fault, sizes_fault, is_number, line_fault, places_fault, same, mirror_fault, symmetry_fault, tables_fault, length_fault, lengths_fault, limit_fault, limits_fault, order_fault, orders_fault, dominates, slip_fault, open_fault}
use Rattle.opening.specs.declared.refusal.List.{List as Name}
use Rattle.opening.specs.declared.refusal.List.TheVariants as name
use Rattle.opening.specs.declared.refusal.Refusal.{Refusal}
use Rattle.opening.specs.declared.refusal.Refusal.TheVariants.{Sizes, Place, Asymmetric, Length, Limit, Slip}
use Rattle.opening.proofs.Firsts.{of_none, mapped_none, or_none, cond_none}
use Rattle.opening.proofs.Fitting.{tells_fit, sized_out, sized_in, same_out, same_in}

-- Q holds of what is given
abbrev Given : {X : Type 0} → (X → Type 0) → Option X → Type 0
Given Q o = IfSome o Q

module _ {X : Type 0} (Q : X → Type 0) where
  given_or : (o p : Option X) → Given Q o → (o ≡ None → Given Q p) → Given Q (option_or o p)
  given_or None p h k = k refl
  given_or (Some x) p h k = h

  given_of : (f : ℕ → Option X) (n : ℕ) → ((k : ℕ) → k < n → first_of f k ≡ None → Given Q (f k)) → Given Q (first_of f n)
  given_of f zero h = tt
  given_of f (suc n) h = given_or (first_of f n) (f n) (given_of f n (λ k l e. h k (omega arith) e)) (λ e. h n (omega arith) e)

  given_unless : (b : Bool) (x : X) → (b ≡ false → Q x) → Given Q (cond b None (Some x))
  given_unless true x h = tt
  given_unless false x h = h refl

  given_here : (F : ℕ → X) (o : Option ℕ) (b : Bool) (n : ℕ) → Given Q (option_map F o) → (b ≡ false → Q (F n)) → Given Q (option_map F (or_here o b n))
  given_here F (Some k) b n h t = h
  given_here F None true n h t = tt
  given_here F None false n h t = t refl

  given_not : (F : ℕ → X) (p : ℕ → Bool) (n : ℕ) → ((k : ℕ) → k < n → p k ≡ false → Q (F k)) → Given Q (option_map F (first_not p n))
  given_not F p zero h = tt
  given_not F p (suc n) h = given_here F (first_not p n) (p n) n (given_not F p n (λ k l. h k (omega arith))) (h n (omega arith))

not_number : (limit : ℕ) (o : Option ℤ) → is_number limit o ≡ false → (o ≡ None) ⊎ (limit < nat_abs (unwrap_or o (pos 0)))
not_number limit None e = inl refl
not_number limit (Some x) e = inr (leb-false _ _ e)

above_of : (x y : ℤ) → le_z x y ≡ false → y <ℤ x
above_of x y e = grind (arith, ints)

module _ (g a : Grid) (x : Numbers) where
  abbrev Q : Refusal → Type 0
  Q = AtFault g a x

  abbrev square : Option Refusal
  square = size_fault (is_square g) g

  abbrev lined : Option Refusal
  lined = size_fault (is_lined (height_of g) a) a

  of_sizes : Given Q (sizes_fault g a)
  of_sizes =
      given_or Q square lined
      (given_unless Q (is_square g) (Sizes (height_of g) (width_of g)) (λ e.
      (inl (record { high = refl; wide = refl }), λ s. both_ways (is_square g) e (cond_none (is_square g) _ (or_none square lined (sized_in g a s)).0))))
      (λ _.
      given_unless Q (is_lined (height_of g) a) (Sizes (height_of a) (width_of a)) (λ e.
      (inr (record { high = refl; wide = refl }), λ s. both_ways (is_lined (height_of g) a) e (cond_none (is_lined (height_of g) a) _ (or_none square lined (sized_in g a s)).1))))

  of_places : (limit : ℕ) (t : Grid) → ((i j : ℕ) → Unfilled limit t i j → Q (Place i j)) → Given Q (places_fault limit t)
  of_places limit t up =
      given_of Q (line_fault limit t) (height_of t) (λ i h _.
      given_not Q (Place i) (λ j. is_number limit (place_of t i j)) (width_of t) (λ j w e. up i j (record { high = h; wide = w; at = not_number limit (place_of t i j) e })))

  of_symmetry : width_of g ≡ height_of g → Given Q (symmetry_fault g)
  of_symmetry s =
      given_of Q (mirror_fault g) (height_of g) (λ i h none.
      given_not Q (Asymmetric i) (λ j. same (matrix_of g i j) (matrix_of g j i)) (width_of g) (λ j w e.
      record { above = upper i j h w none e; inside = omega arith; at = λ q. both_ways _ e (same_in _ _ q) }))
    where
      upper : (i j : ℕ) → i < height_of g → j < width_of g → first_of (mirror_fault g) i ≡ None → same (matrix_of g i j) (matrix_of g j i) ≡ false → i < j
      upper i j h w none e =
          ⊎_elim
          (λ (q : i ≡ j). absurd (both_ways _ e (same_in (matrix_of g i j) (matrix_of g j i) (rw q refl))))
          (λ (o : (i < j) ⊎ (j < i)).
          ⊎_elim
          (λ (l : i < j). l)
          (λ (l : j < i).
          let row = mapped_none (Asymmetric j) (first_not (λ k. same (matrix_of g j k) (matrix_of g k j)) (width_of g)) (of_none (mirror_fault g) i j none l) in
          let t = first_none (λ k. same (matrix_of g j k) (matrix_of g k j)) (width_of g) i row (omega arith) in
          absurd (both_ways _ e (same_in (matrix_of g i j) (matrix_of g j i) (sym (same_out (matrix_of g j i) (matrix_of g i j) t)))))
          o)
          (cases_order i j)

  of_tables : width_of g ≡ height_of g → Given Q (tables_fault g a)
  of_tables s =
      given_or Q (option_or (places_fault 4096 g) (places_fault 1024 a)) (symmetry_fault g)
      (given_or Q (places_fault 4096 g) (places_fault 1024 a) (of_places 4096 g (λ i j. inl)) (λ _. of_places 1024 a (λ i j. inr)))
      (λ _. of_symmetry s)

  of_length : (list : Name) → Given Q (length_fault list (length_for (height_of g) (height_of a) list) (list_of x list))
  of_length list =
      given_unless Q (eqb (length (list_of x list)) (length_for (height_of g) (height_of a) list)) (Length list) (λ e. eqb-false _ _ e)

  of_limit : (list : Name) → Given Q (limit_fault list (limit_for list) (list_of x list))
  of_limit list =
      given_not Q (Limit list) (λ k. within (limit_for list) (places (list_of x list) k)) (length (list_of x list)) (λ k l e. record { inside = l; at = inl (leb-false _ _ e) })

  -- a check of each list, in their order
  of_six : (f : Name → Option Refusal) → ((list : Name) → Given Q (f list)) →
      Given Q (option_or (option_or (option_or (option_or (option_or (f name.Costs) (f name.LowerBounds)) (f name.UpperBounds)) (f name.LowerLimits)) (f name.UpperLimits)) (f name.Slip))
  of_six f h =
      given_or Q (option_or (option_or (option_or (option_or (f name.Costs) (f name.LowerBounds)) (f name.UpperBounds)) (f name.LowerLimits)) (f name.UpperLimits)) (f name.Slip)
      (given_or Q (option_or (option_or (option_or (f name.Costs) (f name.LowerBounds)) (f name.UpperBounds)) (f name.LowerLimits)) (f name.UpperLimits)
      (given_or Q (option_or (option_or (f name.Costs) (f name.LowerBounds)) (f name.UpperBounds)) (f name.LowerLimits)
      (given_or Q (option_or (f name.Costs) (f name.LowerBounds)) (f name.UpperBounds)
      (given_or Q (f name.Costs) (f name.LowerBounds) (h name.Costs) (λ _. h name.LowerBounds))
      (λ _. h name.UpperBounds))
      (λ _. h name.LowerLimits))
      (λ _. h name.UpperLimits))
      (λ _. h name.Slip)

  of_orders : Given Q (orders_fault x)
  of_orders =
      given_or Q (order_fault name.LowerBounds x.l x.u) (order_fault name.LowerLimits x.lo x.hi)
      (given_not Q (Limit name.LowerBounds) (λ k. le_z (places x.l k) (places x.u k)) (length x.l) (λ k l e. record { inside = l; at = inr (above_of _ _ e) }))
      (λ _. given_not Q (Limit name.LowerLimits) (λ k. le_z (places x.lo k) (places x.hi k)) (length x.lo) (λ k l e. record { inside = l; at = inr (above_of _ _ e) }))

  of_slip : Given Q (slip_fault (height_of g) (matrix_of g) x.slip)
  of_slip =
      given_not Q Slip (dominates (height_of g) (remainder (height_of g) (matrix_of g) (by_rows (height_of g) x.slip))) (height_of g)
      (λ i l e. record { inside = l; at = above_of _ _ e })

  pub truly : (r : Option Refusal) → r ≡ open_fault g a x → Truly g a x r
  truly r e =
      rw e
      (given_or Q (sizes_fault g a) _ of_sizes (λ s.
      given_or Q (tables_fault g a) _ (of_tables (sized_out g a s).square) (λ _.
      given_or Q (lengths_fault (height_of g) (height_of a) x) _ (of_six (λ list. length_fault list (length_for (height_of g) (height_of a) list) (list_of x list)) of_length) (λ _.
      given_or Q (limits_fault x) _ (of_six (λ list. limit_fault list (limit_for list) (list_of x list)) of_limit) (λ _.
      given_or Q (orders_fault x) _ of_orders (λ _. of_slip))))))

-- what a check that answers the first fault owes besides
error_of : {X : Type 0} (o : Option Refusal) (x : X) → result_err (unless o x) ≡ o
error_of None x = refl
error_of (Some e) x = refl

pub lawful : (g a : Grid) (x : Numbers) (r : Result (Unit {0}) Refusal) → r ≡ unless (open_fault g a x) tt →
    record { value : r ≡ unless (open_fault g a x) tt; law : TellsFit g a x (result_err r); fault : Truly g a x (result_err r) }
lawful g a x r e =
    let f : result_err r ≡ open_fault g a x = ap result_err e ∙ error_of (open_fault g a x) tt in
    record { value = e; law = tells_fit g a x (result_err r) f; fault = truly g a x (result_err r) f }
