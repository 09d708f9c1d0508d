-- The rounded unknowns, as the choice and the offer take them.
use Rattle.std.proofs.Common.{◌≡◌, ℕ, ◌+◌, ◌-◌, ◌<◌, true, eqb, List, ◌++◌, map, length, take, drop, replicate, ℤ, pos, nat_abs, sym, ap, ◌∙◌, arith, eq-eqb, le-leb}
use native.Mathlib.Nat.{sub-zero}
use lib.Ieee.{Float, nan}
use Rattle.std.proofs.lemmas.List.{length-map, length-take-le, length-drop, get_or-map, get_or-take}
use Rattle.std.proofs.lemmas.Bool.{and_from}
use Rattle.duality.specs.Lists.{places}
use Rattle.duality.specs.Problem.{Problem}
use Rattle.duality.specs.Tests.{many_within}
use Rattle.duality.specs.Tests.{within, all_within}
use Rattle.duality.proofs.Tests.{all_from}
use Rattle.elimination.specs.Lines.{at, inside}
use Rattle.elimination.specs.Nearest.{nearest}
use Rattle.elimination.proofs.Inside.{nearest_within}
use Rattle.exchange.specs.Rounding.{pulled, pressed, scaled, in_parts}
use Rattle.exchange.specs.Offers.{filled, inside_bounds, multipliers, offered, pulls_of, pressures_of}
use Rattle.exchange.specs.declared.members.Member.{Member}
use Rattle.exchange.specs.declared.members.Offer.{Offer}
use Rattle.exchange.proofs.Filling.{take_filled_up, drop_filled_up, pressed_parts}

-- a part from the start, as code takes it
pub front : (c n : ℕ) (xs ys : List ℤ) → length xs ≡ n → ys ≡ filled c xs → take (n - 0) ys ≡ xs
front c n xs ys l e = ap (take (n - 0)) e ∙ ap (λ (k : ℕ). take k (filled c xs)) (sub-zero n) ∙ take_filled_up c n xs l

module _ (n m : ℕ) (X : List Float) (h : length X ≡ n + m) where
  pub pulls_long : length (pulled (take n X)) ≡ n
  pulls_long = length-map (take n X) nearest ∙ length-take-le n X (omega arith)

  pub pressures_long : length (pressed (drop n X)) ≡ m
  pressures_long = length-map (drop n X) scaled ∙ length-drop n X ∙ omega arith

  pub pulls_are : (us : List Float) (zs : List ℤ) → us ≡ take n X → zs ≡ filled 16 (pulled us) → zs ≡ filled 16 (pulled (take n X))
  pulls_are us zs e f = f ∙ ap (λ x. filled 16 (pulled x)) e

  pub pressures_are : (us vs : List Float) (zs : List ℤ) → us ≡ drop n X → vs ≡ map in_parts us → zs ≡ filled 16 (pulled vs) → zs ≡ filled 16 (pressed (drop n X))
  pressures_are us vs zs e f g = g ∙ ap (λ x. filled 16 (pulled x)) (f ∙ ap (map in_parts) e) ∙ ap (filled 16) (pressed_parts (drop n X))

  pub pulls_point : ((k : ℕ) → k < n + m → inside (at X k) ≡ true) → many_within n 1073741824 (pulled (take n X)) ≡ true
  pulls_point q =
      let z = pulled (take n X) in
      let l = pulls_long in
      and_from (eqb (length z) n) (all_within 1073741824 z) (eq-eqb _ _ l)
      (all_from (λ k. within 1073741824 (places z k)) (length z)
      (λ k t.
      let lt : k < n = omega arith in
      let e : places z k ≡ nearest (at X k) = get_or-map nearest (take n X) k nan (pos 0) (omega (arith, length-take-le n X (omega arith))) ∙ ap nearest (get_or-take n X k nan lt) in
      le-leb (nat_abs (places z k)) 1073741824 (omega (arith, ap nat_abs e, nearest_within (at X k) (q k (omega arith))))))

-- the offer, of a point and multipliers that are filled up
pub offer_is : (P : Problem) (ms : List Member) (us : List Float) (xs ys point mults pulls : List ℤ) → length xs ≡ P.ropes → xs ≡ pulls_of P us → ys ≡ pressures_of P us → pulls ≡ filled 16 xs →
    point ≡ inside_bounds P (take P.ropes pulls) ++ drop P.ropes pulls → length (inside_bounds P xs) ≡ P.ropes →
    mults ≡ filled 32 (multipliers P ms ys) → ◌≡◌ {A = Offer} (record { point = point; multipliers = mults }) (offered P ms us)
unfolding offered
offer_is P ms us xs ys point mults pulls l ex ey ep e li em =
    let n = P.ropes in
    let a : take n pulls ≡ xs = ap (take n) ep ∙ take_filled_up 16 n xs l in
    let b : drop n pulls ≡ replicate (16 - length (inside_bounds P xs)) (pos 0) = ap (drop n) ep ∙ drop_filled_up 16 n xs l ∙ ap (λ (k : ℕ). replicate (16 - k) (pos 0)) (sym li) in
    let f : point ≡ filled 16 (inside_bounds P xs) = e ∙ ap (λ z. inside_bounds P z ++ drop n pulls) a ∙ ap (λ z. inside_bounds P xs ++ z) b in
    let g : point ≡ filled 16 (inside_bounds P (pulls_of P us)) = f ∙ ap (λ z. filled 16 (inside_bounds P z)) ex in
    let k : mults ≡ filled 32 (multipliers P ms (pressures_of P us)) = em ∙ ap (λ z. filled 32 (multipliers P ms z)) ey in
    rw (g, k)
