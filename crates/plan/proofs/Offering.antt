-- What is judged over the numbers that were read is judged as over the tables.
use Rattle.std.proofs.Common.{◌≡◌, ℕ, zero, suc, ◌<◌, Bool, true, false, cond, List, length, ℤ, Some, None, Ok, Err, Option, Result, refl, sym, ap, ◌∙◌, arith}
use Rattle.std.specs.Option.{option_or, option_map}
use lib.Signed.{lt_z}
use Rattle.duality.specs.Lists.{places}
use Rattle.duality.specs.Problem.{cost}
use Rattle.duality.specs.Tests.{or_here, first_not, between}
use Rattle.table.specs.Grid.{Grid}
use Rattle.terms.specs.Numbers.{Numbers}
use Rattle.evaluate.specs.Stated.{stated}
use Rattle.evaluate.specs.Findings.{keeps_row}
use Rattle.opening.specs.declared.refusal.Refusal.{Refusal}
use Rattle.opening.specs.declared.refusal.Refusal.TheVariants.{Row}
use Rattle.calls.specs.States.{State, Pair, problem, floor_of, with_point, with_pair}
use Rattle.calls.specs.Refusing.{length_refusal, limit_refusal, bound_refusal, row_refusal, point_refusal, pair_refusal}
use Rattle.calls.specs.Steps.{unless, if_taken, verdict, undercuts, pointed, paired}
use Rattle.reading.specs.Plain.{Agrees}
use Rattle.reading.proofs.Agreeing.{same_row, same_cost, same_floor}
use Rattle.plan.specs.Bettering.{below, above}

first_same : (p q : ℕ → Bool) (n : ℕ) → ((k : ℕ) → k < n → p k ≡ q k) → first_not p n ≡ first_not q n
first_same p q zero h = refl
first_same p q (suc n) h =
    ap (λ (o : Option ℕ). or_here o (p n) n) (first_same p q n (λ k l. h k (omega arith))) ∙ ap (λ (b : Bool). or_here (first_not q n) b n) (h n (omega arith))

-- over tables h and b that state the same as g and a
module _ (g a h b : Grid) (x : Numbers) (agree : Agrees (stated h b x) (stated g a x)) where
  same_rows : (z : List ℤ) → row_refusal (stated h b x) (places z) ≡ row_refusal (stated g a x) (places z)
  same_rows z =
      ap (option_map Row)
      (first_same (keeps_row (stated h b x) (places z)) (keeps_row (stated g a x) (places z)) x.rows
      (λ i l. ap (between (places x.lo i) (places x.hi i)) (same_row (stated h b x) (stated g a x) agree (places z) i l)))

  same_point : (z : List ℤ) (held : Option ℤ) →
      unless (point_refusal (stated h b x) z) (below held (cost (stated h b x) (places z))) ≡ unless (point_refusal (stated g a x) z) (below held (cost (stated g a x) (places z)))
  same_point z held =
      ap (λ (o : Option Refusal). unless (option_or (length_refusal x.ropes (length z)) (option_or (limit_refusal 32768 0 z) (option_or (bound_refusal (stated g a x) (places z)) o))) (below held (cost (stated h b x) (places z)))) (same_rows z)
      ∙ ap (λ (q : ℤ). unless (point_refusal (stated g a x) z) (below held q)) (same_cost (stated h b x) (stated g a x) agree (places z))

  same_pair : (q : Pair) (held : ℤ) →
      unless (pair_refusal (stated h b x) q) (above held (floor_of (stated h b x) q)) ≡ unless (pair_refusal (stated g a x) q) (above held (floor_of (stated g a x) q))
  same_pair q held =
      ap (λ (v : ℤ). unless (pair_refusal (stated g a x) q) (above held v)) (same_floor (stated h b x) (stated g a x) agree (places q.point) (places q.multipliers))

  -- and so it is where the numbers beside the tables are those that were read
  pub judged_point_same : (y : Numbers) → y ≡ x → (z : List ℤ) (held : Option ℤ) (r : Result (Option ℤ) Refusal) →
      r ≡ unless (point_refusal (stated h b y) z) (below held (cost (stated h b y) (places z))) → r ≡ unless (point_refusal (stated g a x) z) (below held (cost (stated g a x) (places z)))
  judged_point_same y e z held r er =
      er ∙ ap (λ (n : Numbers). unless (point_refusal (stated h b n) z) (below held (cost (stated h b n) (places z)))) e ∙ same_point z held

  pub judged_pair_same : (y : Numbers) → y ≡ x → (q : Pair) (held : ℤ) (r : Result (Option ℤ) Refusal) →
      r ≡ unless (pair_refusal (stated h b y) q) (above held (floor_of (stated h b y) q)) → r ≡ unless (pair_refusal (stated g a x) q) (above held (floor_of (stated g a x) q))
  judged_pair_same y e q held r er =
      er ∙ ap (λ (n : Numbers). unless (pair_refusal (stated h b n) q) (above held (floor_of (stated h b n) q))) e ∙ same_pair q held

  pub read_cost_is : (y : Numbers) → y ≡ x → (z : List ℤ) → cost (stated h b y) (places z) ≡ cost (stated g a x) (places z)
  read_cost_is y e z = ap (λ (n : Numbers). cost (stated h b n) (places z)) e ∙ same_cost (stated h b x) (stated g a x) agree (places z)

  pub read_floor_is : (y : Numbers) → y ≡ x → (q : Pair) → floor_of (stated h b y) q ≡ floor_of (stated g a x) q
  read_floor_is y e q = ap (λ (n : Numbers). floor_of (stated h b n) q) e ∙ same_floor (stated h b x) (stated g a x) agree (places q.point) (places q.multipliers)

-- the state after a point, by what it comes to beside the held one
abbrev pub point_after : State → List ℤ → Result (Option ℤ) Refusal → State
point_after s z (Ok (Some q)) = with_point s (Some z)
point_after s z (Ok None) = s
point_after s z (Err e) = s

abbrev pub pair_after : State → Pair → Result (Option ℤ) Refusal → State
pair_after s q (Ok (Some v)) = with_pair s q
pair_after s q (Ok None) = s
pair_after s q (Err e) = s

module _ (s : State) where
  taken_point : (z : List ℤ) (b : Bool) (q : ℤ) → if_taken (Ok (verdict b)) (with_point s (Some z)) s ≡ point_after s z (Ok (cond b (Some q) None))
  taken_point z true q = refl
  taken_point z false q = refl

  judged_point : (z : List ℤ) (o : Option Refusal) (held : Option (List ℤ)) →
      if_taken (unless o (verdict (undercuts (problem s) z held))) (with_point s (Some z)) s
      ≡ point_after s z (unless o (below (option_map (λ (x : List ℤ). cost (problem s) (places x)) held) (cost (problem s) (places z))))
  judged_point z (Some e) held = refl
  judged_point z None None = refl
  judged_point z None (Some x) = taken_point z (lt_z (cost (problem s) (places z)) (cost (problem s) (places x))) (cost (problem s) (places z))

  pub pointed_is : (z : List ℤ) (held : Option ℤ) (r : Result (Option ℤ) Refusal) → held ≡ option_map (λ (x : List ℤ). cost (problem s) (places x)) s.point
      → r ≡ unless (point_refusal (problem s) z) (below held (cost (problem s) (places z))) → point_after s z r ≡ pointed s z
  pointed_is z held r eh er =
      ap (point_after s z) (er ∙ ap (λ (b : Option ℤ). unless (point_refusal (problem s) z) (below b (cost (problem s) (places z)))) eh)
      ∙ sym (judged_point z (point_refusal (problem s) z) s.point)

  taken_pair : (q : Pair) (b : Bool) (v : ℤ) → if_taken (Ok (verdict b)) (with_pair s q) s ≡ pair_after s q (Ok (cond b (Some v) None))
  taken_pair q true v = refl
  taken_pair q false v = refl

  judged_pair : (q : Pair) (o : Option Refusal) (held v : ℤ) → if_taken (unless o (verdict (lt_z held v))) (with_pair s q) s ≡ pair_after s q (unless o (above held v))
  judged_pair q (Some e) held v = refl
  judged_pair q None held v = taken_pair q (lt_z held v) v

  pub paired_is : (q : Pair) (held : ℤ) (r : Result (Option ℤ) Refusal) → held ≡ floor_of (problem s) s.pair
      → r ≡ unless (pair_refusal (problem s) q) (above held (floor_of (problem s) q)) → pair_after s q r ≡ paired s q
  paired_is q held r eh er =
      ap (pair_after s q) (er ∙ ap (λ (v : ℤ). unless (pair_refusal (problem s) q) (above v (floor_of (problem s) q))) eh)
      ∙ sym (judged_pair q (pair_refusal (problem s) q) (floor_of (problem s) s.pair) (floor_of (problem s) q))

-- what betters is what was offered

chosen_is : (b : Bool) (q v : ℤ) → cond b (Some q) None ≡ Some v → v ≡ q
chosen_is true q v e = cc
chosen_is false q v e = let z : ◌≡◌ {A = ℕ} 0 1 = cc in absurd (omega arith)

below_is : (held : Option ℤ) (q v : ℤ) → below held q ≡ Some v → v ≡ q
below_is None q v e = cc
below_is (Some h) q v e = chosen_is (lt_z q h) q v e

pub better_point : (o : Option Refusal) (held : Option ℤ) (q v : ℤ) → Ok (Some v) ≡ unless o (below held q) → v ≡ q
better_point None held q v e = let f : below held q ≡ Some v = cc in below_is held q v f
better_point (Some r) held q v e = let z : ◌≡◌ {A = ℕ} 0 1 = cc in absurd (omega arith)

pub better_pair : (o : Option Refusal) (held q v : ℤ) → Ok (Some v) ≡ unless o (above held q) → v ≡ q
better_pair None held q v e = let f : above held q ≡ Some v = cc in chosen_is (lt_z held q) q v f
better_pair (Some r) held q v e = let z : ◌≡◌ {A = ℕ} 0 1 = cc in absurd (omega arith)
