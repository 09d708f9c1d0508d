-- What a plan shows is honest, whatever calls led to it.
use Rattle.std.proofs.Common.{◌≡◌, ℕ, Bool, true, false, cond, eqb, List, length, ℤ, pos, ◌-ℤ◌, ◌*ℤ◌, ◌≤ℤ◌, is_some, Some, None, Ok, Option, Result, sym, refl, ◌∙◌, subst, arith}
use Rattle.std.proofs.lemmas.Int.{ints}
use Rattle.std.proofs.lemmas.Bool.{cond-true, false≢true}
use Rattle.duality.specs.Lists.{places}
use Rattle.duality.specs.Problem.{Problem, cost}
use Rattle.duality.proofs.Floor.{floor_sound}
use Rattle.duality.proofs.Refutation.{none_sound}
use Rattle.opening.specs.declared.refusal.Refusal.{Refusal}
use Rattle.opening.specs.declared.refusal.Refusal.TheVariants.{OfferLength}
use Rattle.calls.specs.declared.answers.Shown.{Shown}
use Rattle.calls.specs.States.{State, Pair, problem, floor_of}
use Rattle.calls.specs.Steps.{unless, found_by, shown, show_answer, point_shown, shown_in}
use Rattle.calls.specs.Lawful.{LawfulPoint, LawfulProof}
use Rattle.calls.specs.Offers.{Offer}
use Rattle.calls.specs.Opened.{opened}
use Rattle.calls.specs.Histories.{Offered}
use Rattle.calls.specs.Honesty.{Meets, ShowsPoint, GapHolds, SaysNone, ShowsAtMost, Honest, Held, ShowLaw}
use Rattle.calls.specs.Fairness.{Fair, FairShowLaw}
use Rattle.calls.proofs.Opened.{opened_fair}
use Rattle.calls.proofs.Upholding.{HoldsAtMost, Upheld}
use Rattle.calls.proofs.Keeping.{Keeps, keeps, problem_is, reached_fair}

-- what is found, by the proof and the point that are held

abbrev shows : Problem → Pair → Option (List ℤ) → Option (List ℤ) → Shown
shows P q y z = record { floor = floor_of P q; found = found_by P q y z }

-- a cost less its gap is the floor
above_floor : (c f d : ℤ) → f ≤ℤ d → (c -ℤ (c -ℤ f)) ≤ℤ d
above_floor c f d h = grind (arith, ints)

module _ (P : Problem) (q : Pair) where
  point_shown_lem : (y z : Option (List ℤ)) (out : List ℤ) → Held z (LawfulPoint P) → ShowsPoint P (shows P q y z) (found_by P q y z) (point_shown y z out)
  point_shown_lem (Some y) z out h = tt
  point_shown_lem None (Some z) out h = (record { long = h.long; feasible = h.feasible }, refl, refl)
  point_shown_lem None None out h = tt

  gap_lem : (y z : Option (List ℤ)) → ((x : List ℤ) → Meets P x → floor_of P q ≤ℤ (pos 256 *ℤ cost P (places x))) → GapHolds P (found_by P q y z)
  gap_lem (Some y) z h = tt
  gap_lem None (Some z) h = λ x meets. above_floor (pos 256 *ℤ cost P (places z)) (floor_of P q) (pos 256 *ℤ cost P (places x)) (h x meets)
  gap_lem None None h = tt

  none_true : (y z : Option (List ℤ)) → Held y (LawfulProof P) → SaysNone (found_by P q y z) → (x : List ℤ) → Meets P x → ⊥
  none_true (Some y) z h says x meets = none_sound P (places y) h.refutes (places x) meets.feasible
  none_true None (Some z) h says x meets = says
  none_true None None h says x meets = says

  none_said : (y z : Option (List ℤ)) → is_some y ≡ true → SaysNone (found_by P q y z)
  none_said (Some y) z e = tt
  none_said None z e = absurd (false≢true e)

  -- a lawful point leaves no lawful proof to be shown instead
  at_most_shown : (y z : Option (List ℤ)) (x : List ℤ) → Held y (LawfulProof P) → LawfulPoint P x →
      HoldsAtMost P z (cost P (places x)) → ShowsAtMost (found_by P q y z) (cost P (places x))
  at_most_shown (Some y) z x h law held = none_sound P (places y) h.refutes (places x) law.feasible
  at_most_shown None (Some z) x h law held = held
  at_most_shown None None x h law held = held

pub upheld_honest : (Since : Offer → Type 0) (t : State) (out : List ℤ) → Fair t → Upheld Since t →
    Honest (problem t) Since (shown t) (point_shown t.proof t.point out)
upheld_honest Since t out fair u =
    let P = problem t in
    record {
      point_meets_all = point_shown_lem P t.pair t.proof t.point out u.points.lawful;
      floor_holds = floors;
      gap_holds = gap_lem P t.pair t.proof t.point floors;
      none_is_true = none_true P t.pair t.proof t.point u.proofs.lawful;
      none_is_said = λ y since law. none_said P t.pair t.proof t.point (u.proofs.none_lost y since law);
      no_point_lost = λ x since law. at_most_shown P t.pair t.proof t.point x u.proofs.lawful law (u.points.none_lost x since law);
      no_floor_lost = u.pairs;
    }
  where
    floors : (x : List ℤ) → Meets (problem t) x → floor_of (problem t) t.pair ≤ℤ (pos 256 *ℤ cost (problem t) (places x))
    floors x meets = floor_sound (problem t) fair.symmetric fair.convex (places t.pair.point) (places t.pair.multipliers) (places x) meets.feasible

-- a show that is not refused was handed a list of the right length
answered : (b : Bool) (e : Refusal) (v x : Shown) → unless (cond b None (Some e)) v ≡ Ok x → (b ≡ true) × (v ≡ x)
answered true e v x d = (refl, (cc))
answered false e v x d = let z : ◌≡◌ {A = ℕ} 0 1 = cc in absurd (omega arith)

-- from any fair start
pub show_honest : (t : State) (out : List ℤ) (r : Result Shown Refusal) (z : List ℤ) → r ≡ show_answer t (length out) → z ≡ shown_in t out → FairShowLaw t r z
show_honest t out r z er ez s past fair et x ex =
    let fits = answered (eqb (length out) t.numbers.ropes) (OfferLength t.numbers.ropes) (shown t) x (sym er ∙ ex) in
    let k = subst (Keeps s past) et (keeps s past fair) in
    let filled : shown_in t out ≡ listed = cond-true (eqb (length out) t.numbers.ropes) listed out fits.0 in
    subst (λ (P : Problem). Honest P (Offered s past) x z) (problem_is k)
    (subst (Honest (problem t) (Offered s past) x) (sym (ez ∙ filled))
    (subst (λ (v : Shown). Honest (problem t) (Offered s past) v listed) fits.1
    (upheld_honest (Offered s past) t out (subst Fair et (reached_fair s past fair)) k.upheld)))
  where
    listed : List ℤ
    listed = point_shown t.proof t.point out

-- a plan just opened is a fair start
pub show_law : (t : State) (out : List ℤ) (r : Result Shown Refusal) (z : List ℤ) → r ≡ show_answer t (length out) → z ≡ shown_in t out → ShowLaw t r z
show_law t out r z er ez g a x past s = show_honest t out r z er ez (opened g a x) past (opened_fair g a x s.opens) s.stands
