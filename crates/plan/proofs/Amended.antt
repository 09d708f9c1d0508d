-- An amendment as a whole, refused or allowed.
use Rattle.std.proofs.Common.{◌≡◌, Bool, List, ℤ, None, Ok, Err, Option, sym, ap, ◌∙◌}
use Rattle.duality.specs.Lists.{places}
use Rattle.opening.specs.declared.refusal.Refusal.{Refusal}
use Rattle.terms.specs.Numbers.{Numbers}
use Rattle.evaluate.specs.Stated.{stated}
use Rattle.evaluate.specs.Findings.{feasible}
use Rattle.evaluate.specs.Floors.{refuting}
use Rattle.calls.specs.declared.answers.Amendment.{Amendment}
use Rattle.calls.specs.declared.answers.Dropped.{Dropped}
use Rattle.calls.specs.States.{State, with_numbers}
use Rattle.calls.specs.Refusing.{amend_refusal}
use Rattle.calls.specs.Steps.{unless, amendment, standing, cleared, renumbered, was_dropped, dropped_from, if_allowed, amended, amend_answer}
use Rattle.plan.proofs.Refused.{refused_for}

-- what was refused is not done
pub not_done : {X Y : Type 0} (o : Option Refusal) (v : X) (e : Refusal) (done before : Y) → Err e ≡ unless o v → if_allowed o done before ≡ before
not_done o v e done before q = ap (λ (p : Option Refusal). if_allowed p done before) (refused_for o v e q)

pub kept_numbers : {X : Type 0} (o : Option Refusal) (v : X) (e : Refusal) (done before after : Numbers) → Err e ≡ unless o v → after ≡ if_allowed o done before → after ≡ before
kept_numbers o v e done before after q h = h ∙ not_done o v e done before q

-- s is the state before; x, p and q are the numbers after, and what is then held
module _ (s : State) (m : Amendment) (x : Numbers) (p q : Option (List ℤ)) (allowed : amend_refusal s.numbers m ≡ None)
    (set : x ≡ if_allowed (amend_refusal s.numbers m) (amendment s.numbers m) s.numbers)
    (ep : p ≡ standing (λ z. feasible (stated s.g s.a x) (places z)) s.point) (eq : q ≡ standing (λ y. refuting (stated s.g s.a x) (places y)) s.proof) where
  abbrev pub then : State
  then = record { g = s.g; a = s.a; numbers = x; point = p; proof = q; pair = s.pair }

  ex : x ≡ amendment s.numbers m
  ex = set ∙ ap (λ (o : Option Refusal). if_allowed o (amendment s.numbers m) s.numbers) allowed

  then_cleared : then ≡ cleared (renumbered s m)
  then_cleared =
      ap (λ (h : Option (List ℤ)). record { g = s.g; a = s.a; numbers = x; point = h; proof = q; pair = s.pair }) ep
      ∙ ap (λ (h : Option (List ℤ)). record { g = s.g; a = s.a; numbers = x; point = standing (λ z. feasible (stated s.g s.a x) (places z)) s.point; proof = h; pair = s.pair }) eq
      ∙ ap (λ (y : Numbers). cleared (with_numbers s y)) ex

  pub amend_after : then ≡ amended s m
  amend_after = then_cleared ∙ sym (ap (λ (o : Option Refusal). if_allowed o (cleared (renumbered s m)) s) allowed)

  pub amend_answered : (b d : Bool) → b ≡ was_dropped s.point p → d ≡ was_dropped s.proof q → Ok (record { point = b; proof = d }) ≡ amend_answer s m
  amend_answered b d eb ed =
      let told : ◌≡◌ {A = Dropped} (record { point = b; proof = d }) (dropped_from s then) = cc in
      ap (λ (v : Dropped). Ok v) (told ∙ ap (dropped_from s) then_cleared)
      ∙ sym (ap (λ (o : Option Refusal). unless o (dropped_from s (cleared (renumbered s m)))) allowed)
