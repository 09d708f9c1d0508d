-- What is offered lies inside its limits.
use Rattle.std.proofs.Common.{◌≡◌, ℕ, ◌≤◌, Bool, true, false, cond, List, [], ◌∷◌, length, take, ℤ, pos, nat_abs, sym, ap, ◌∙◌, subst, le_refl, arith, le-leb}
use lib.Ieee.{Float}
use Rattle.std.proofs.lemmas.List.FromFn.{length-map-range_with_len, get_or-map-range_with_len}
use Rattle.std.proofs.lemmas.List.{get_or_past, length-map, length-take-le}
use Rattle.std.proofs.lemmas.Int.{clamps}
use Rattle.duality.proofs.Sizes.{sizes}
use Rattle.duality.specs.Lists.{places}
use Rattle.duality.specs.Problem.{Problem}
use Rattle.job.specs.Bounds.{InBounds, held}
use Rattle.job.specs.Numbers.{problem_of}
use Rattle.duality.specs.Tests.{within, all_within}
use Rattle.job.specs.declared.numbers.Job.{Job}
use Rattle.job.proofs.Holding.{held_in_bounds}
use Rattle.duality.proofs.Tests.{all_from}
use Rattle.elimination.specs.Nearest.{nearest}
use Rattle.exchange.specs.Breaches.{same}
use Rattle.exchange.specs.Offers.{filled, inside_bounds, inside_limit, pressure_of, multipliers, pulls_of, pressures_of, offered}
use Rattle.exchange.specs.Steps.{OffersInside}
use Rattle.exchange.specs.declared.members.Limit.{Limit}
use Rattle.exchange.specs.declared.members.Limit.TheVariants.{Row}
use Rattle.exchange.specs.declared.members.Member.{Member}
use Rattle.exchange.specs.declared.members.Choice.{Choice}
use Rattle.exchange.specs.declared.members.Step.TheVariants.{Found}
use Rattle.exchange.proofs.Filling.{take_filled_up}

limit_small : (y : ℤ) → nat_abs (inside_limit y) ≤ 16777216
limit_small y = omega (arith, sizes, clamps)

pressure_small : (ms : List Member) (ys : List ℤ) (v : Limit) → nat_abs (pressure_of ms ys v) ≤ 16777216
pressure_small [] ys v = omega arith
pressure_small (w ∷ ms) [] v = omega arith
pressure_small (w ∷ ms) (y ∷ ys) v = either (same w.limit v) (inside_limit y) (pressure_of ms ys v) (limit_small y) (pressure_small ms ys v)
  where
    either : (b : Bool) (x z : ℤ) → nat_abs x ≤ 16777216 → nat_abs z ≤ 16777216 → nat_abs (cond b x z) ≤ 16777216
    either true x z p q = p
    either false x z p q = q

pub multipliers_inside : (P : Problem) (ms : List Member) (ys : List ℤ) → all_within 16777216 (take P.rows (filled 32 (multipliers P ms ys))) ≡ true
multipliers_inside P ms ys =
    let m = P.rows in
    let f : ℕ → ℤ = λ i. pressure_of ms ys (Row i) in
    let l : length (multipliers P ms ys) ≡ m = length-map-range_with_len f 0 m in
    let t = take_filled_up 32 m (multipliers P ms ys) l in
    rw t
    (all_from (λ k. within 16777216 (places (multipliers P ms ys) k)) (length (multipliers P ms ys))
    (λ k h.
    let e : places (multipliers P ms ys) k ≡ f k = get_or-map-range_with_len f 0 m k k (pos 0) (omega arith) (omega arith) in
    le-leb (nat_abs (places (multipliers P ms ys) k)) 16777216 (omega (arith, ap nat_abs e, pressure_small ms ys (Row k)))))

pub point_inside : (j : Job) (us : List Float) → (problem_of j).ropes ≤ length us → InBounds (problem_of j) (take (problem_of j).ropes (filled 16 (inside_bounds (problem_of j) (pulls_of (problem_of j) us))))
point_inside j us h =
    let P = problem_of j in
    let n = (problem_of j).ropes in
    let z = pulls_of P us in
    let y = inside_bounds P z in
    let g : ℕ → ℤ = λ k. held (P.l k) (P.u k) (places z k) in
    let ly : length y ≡ n = length-map-range_with_len g 0 n in
    let lz : length z ≡ n = length-map (take n us) nearest ∙ length-take-le n us h in
    let t = take_filled_up 16 n y ly in
    let B : List ℤ → Type 0 = InBounds P in
    subst B (sym t)
    (held_in_bounds j z y n lz (ly ∙ sym lz) (le_refl n)
    (λ k l. get_or-map-range_with_len g 0 n k k (pos 0) l (omega arith), λ k l. get_or_past y k (pos 0) (omega arith) ∙ sym (get_or_past z k (pos 0) (omega arith))))

pub offered_inside : (j : Job) (ms : List Member) (us : List Float) (ch : Choice) → (problem_of j).ropes ≤ length us → OffersInside (problem_of j) (Found (offered (problem_of j) ms us) ch)
unfolding offered
offered_inside j ms us ch h = (point_inside j us h, multipliers_inside (problem_of j) ms (pressures_of (problem_of j) us))
