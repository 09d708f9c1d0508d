-- Answers that are refused or not.
use Rattle.std.proofs.Common.{◌≡◌, ℕ, Bool, true, false, is_ok, Some, None, Ok, Err, Decides, Option, Result, sym, refl, ap, ◌∙◌, arith}
use Rattle.std.proofs.lemmas.Bool.{both_ways}
use Rattle.std.specs.Result.{IsErr}
use Rattle.opening.specs.declared.refusal.Refusal.{Refusal}
use Rattle.opening.proofs.Firsts.{none_of}
use Rattle.calls.specs.Steps.{unless}
use Rattle.calls.specs.Lawful.{RefusesUnlawful}

-- an answer that refuses tells the reason
pub refused_for : {X : Type 0} (o : Option Refusal) (v : X) (e : Refusal) → Err e ≡ unless o v → o ≡ Some e
refused_for None v e q = let z : ◌≡◌ {A = ℕ} 0 1 = cc in absurd (omega arith)
refused_for (Some r) v e q = let z : e ≡ r = cc in ap Some (sym z)

-- and one that does not is what was to be answered
pub given_of : {X : Type 0} (o : Option Refusal) (v w : X) → Ok w ≡ unless o v → w ≡ v
given_of None v w q = cc
given_of (Some r) v w q = let z : ◌≡◌ {A = ℕ} 0 1 = cc in absurd (omega arith)

-- the answer is the same in another place where the same is refused

pub refused_same : {X Y : Type 0} (o : Option Refusal) (v : X) (w : Y) (e : Refusal) → Err e ≡ unless o v → Err e ≡ unless o w
refused_same o v w e q = sym (ap (λ p. unless p w) (refused_for o v e q))

pub allowed_same : {X Y : Type 0} (o : Option Refusal) (v u : X) (w y : Y) → Ok u ≡ unless o v → y ≡ w → Ok y ≡ unless o w
allowed_same o v u w y q r = ap Ok r ∙ sym (ap (λ p. unless p w) (none_of o v u q))

ok_none : {X : Type 0} (o : Option Refusal) (v : X) → is_ok (unless o v) ≡ true → o ≡ None
ok_none None v e = refl
ok_none (Some r) v e = absurd (both_ways false refl e)

none_ok : {X : Type 0} (o : Option Refusal) (v : X) → o ≡ None → is_ok (unless o v) ≡ true
none_ok o v e = ap (λ p. is_ok (unless p v)) e

pub not_ok : {X : Type 0} (r : Result X Refusal) → IsErr r → is_ok r ≡ false
not_ok (Ok x) h = cc
not_ok (Err e) h = refl

pub decides_lawful : {X : Type 0} {L : Type 0} {o : Option Refusal} (v : X) (r : Result X Refusal) (b : Bool) → RefusesUnlawful L o → r ≡ unless o v → b ≡ is_ok r → Decides b L
decides_lawful {o = o} v r b law e eb = (
  (λ k. law.lawful (ok_none o v (ap is_ok (sym e) ∙ sym eb ∙ k))),
  (λ x. eb ∙ ap is_ok e ∙ none_ok o v (law.only x)),
)
