-- An amendment drops what no longer holds, so that what is still held is lawful; a refused one leaves everything.
use Rattle.std.proofs.Common.{◌≡◌, Bool, true, false, cond, List, ℤ, Some, None, Option, sym, refl, ◌∙◌}
use Rattle.duality.specs.Lists.{places}
use Rattle.duality.specs.Problem.{Problem}
use Rattle.opening.specs.declared.refusal.Refusal.{Refusal}
use Rattle.terms.specs.Numbers.{Numbers}
use Rattle.evaluate.specs.Findings.{feasible}
use Rattle.evaluate.specs.Floors.{refuting}
use Rattle.evaluate.proofs.Firsts.{feasible_decides}
use Rattle.evaluate.proofs.Flooring.{refutes_decides}
use Rattle.calls.specs.declared.answers.Amendment.{Amendment}
use Rattle.calls.specs.declared.answers.Amendment.TheVariants.{Row, Rope, Cost}
use Rattle.calls.specs.States.{State, problem, with_numbers}
use Rattle.calls.specs.Refusing.{amend_refusal}
use Rattle.calls.specs.Steps.{amendment, standing, cleared, renumbered, if_allowed, amended}
use Rattle.calls.specs.Lawful.{LawfulPoint, LawfulProof}
use Rattle.calls.specs.Offers.{Offer}
use Rattle.calls.specs.Honesty.{Held}
use Rattle.calls.proofs.Upholding.{Upheld, SameTerms, upheld_for}

-- the sizes stay

pub ropes_stay : (x : Numbers) (m : Amendment) → (amendment x m).ropes ≡ x.ropes
ropes_stay x (Row i lo hi) = refl
ropes_stay x (Rope j l u) = refl
ropes_stay x (Cost j c) = refl

rows_stay : (x : Numbers) (m : Amendment) → (amendment x m).rows ≡ x.rows
rows_stay x (Row i lo hi) = refl
rows_stay x (Rope j l u) = refl
rows_stay x (Cost j c) = refl

-- what passes the test is lawful for the problem Q, if it was lawful for one of the same sizes

module _ (P Q : Problem) where
  standing_point : (h : Option (List ℤ)) → P.ropes ≡ Q.ropes → Held h (LawfulPoint P) → Held (standing (λ z. feasible Q (places z)) h) (LawfulPoint Q)
  standing_point None same f = tt
  standing_point (Some z) same f = still (feasible Q (places z)) refl
    where
      still : (b : Bool) → feasible Q (places z) ≡ b → Held (cond b (Some z) None) (LawfulPoint Q)
      still true e = record { long = f.long ∙ same; near = f.near; feasible = (feasible_decides Q (places z)).0 e }
      still false e = tt

  standing_proof : (h : Option (List ℤ)) → P.rows ≡ Q.rows → Held h (LawfulProof P) → Held (standing (λ y. refuting Q (places y)) h) (LawfulProof Q)
  standing_proof None same f = tt
  standing_proof (Some y) same f = still (refuting Q (places y)) refl
    where
      still : (b : Bool) → refuting Q (places y) ≡ b → Held (cond b (Some y) None) (LawfulProof Q)
      still true e = record { rows = f.rows ∙ same; light = f.light; refutes = (refutes_decides Q (places y) (refuting Q (places y)) refl).0 e }
      still false e = tt

module _ (t : State) (m : Amendment) where
  abbrev P : Problem
  P = problem t

  abbrev Q : Problem
  Q = problem (renumbered t m)

  cleared_upheld : {Since : Offer → Type 0} → Upheld Since t → Upheld (λ o. ⊥) (cleared (renumbered t m))
  cleared_upheld u =
      record {
        points = record { lawful = standing_point P Q t.point (sym (ropes_stay t.numbers m)) u.points.lawful; none_lost = λ x b. absurd b };
        proofs = record { lawful = standing_proof P Q t.proof (sym (rows_stay t.numbers m)) u.proofs.lawful; none_lost = λ y b. absurd b };
        pairs = λ q b. absurd b;
      }

  -- offers count on only past a refused amendment
  pub amend_upheld : (Since : Offer → Type 0) → Upheld Since t → Upheld (λ o. (amend_refusal t.numbers m ≡ None → ⊥) × Since o) (amended t m)
  amend_upheld Since u = at (amend_refusal t.numbers m)
    where
      at : (r : Option Refusal) → Upheld (λ o. (r ≡ None → ⊥) × Since o) (if_allowed r (cleared (renumbered t m)) t)
      at None = upheld_for (λ o since. since.0 refl) (cleared_upheld u)
      at (Some e) = upheld_for (λ o since. since.1) u

  -- the tables stay, and so do the numbers if it is refused
  pub amend_same : SameTerms (amended t m) (with_numbers t (if_allowed (amend_refusal t.numbers m) (amendment t.numbers m) t.numbers))
  amend_same = at (amend_refusal t.numbers m)
    where
      at : (r : Option Refusal) → SameTerms (if_allowed r (cleared (renumbered t m)) t) (with_numbers t (if_allowed r (amendment t.numbers m) t.numbers))
      at None = record { g = refl; a = refl; numbers = refl }
      at (Some e) = record { g = refl; a = refl; numbers = refl }
