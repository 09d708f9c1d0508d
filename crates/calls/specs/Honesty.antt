-- What a plan may say of its problem, and that it never says anything else.
use Rattle.std.specs.Prelude.{◌≡◌, List, length, ℤ, pos, ◌-ℤ◌, ◌*ℤ◌, ◌≤ℤ◌, Some, None, Ok, Option, Result, ◌≢◌}
use Rattle.table.specs.Grid.{Grid}
use Rattle.duality.specs.Lists.{places}
use Rattle.duality.specs.Problem.{Problem, Feasible, cost}
use Rattle.evaluate.specs.Stated.{stated}
use Rattle.opening.specs.Opening.{Numbers, open_fault}
use Rattle.opening.specs.declared.refusal.Refusal.{Refusal}
use Rattle.calls.specs.declared.answers.Found.{Found}
use Rattle.calls.specs.declared.answers.Found.TheVariants.{NoneExists, Point, NoPoint}
use Rattle.calls.specs.declared.answers.Shown.{Shown}
use Rattle.calls.specs.States.{State, Pair, floor_of, problem}
use Rattle.calls.specs.Lawful.{LawfulPoint, LawfulPair, LawfulProof}
use Rattle.calls.specs.Offers.{Offer, point, pair, proof}
use Rattle.calls.specs.Opened.{opened}
use Rattle.calls.specs.Histories.{Call, reached, in_force, Offered}

-- a whole-tick point that meets every row and bound: a number for each rope, however large
pub record Meets (P : Problem) (x : List ℤ) : Type 0 where
  pub long : length x ≡ P.ropes
  pub feasible : Feasible P (places x)

-- a shown point meets every row and bound, and has the cost and the gap that are told
abbrev pub ShowsPoint : Problem → Shown → Found → List ℤ → Type 0
ShowsPoint P r NoneExists z = Unit {0}
ShowsPoint P r (Point q d) z = Meets P z × (q ≡ cost P (places z)) × (d ≡ pos 256 *ℤ q -ℤ r.floor)
ShowsPoint P r NoPoint z = Unit {0}

-- no whole-tick point that meets every row and bound saves more than a 256th of the gap that is told
abbrev pub GapHolds : Problem → Found → Type 0
GapHolds P NoneExists = Unit {0}
GapHolds P (Point q d) = (x : List ℤ) → Meets P x → (pos 256 *ℤ q -ℤ d) ≤ℤ (pos 256 *ℤ cost P (places x))
GapHolds P NoPoint = Unit {0}

abbrev pub SaysNone : Found → Type 0
SaysNone NoneExists = Unit {0}
SaysNone (Point q d) = ⊥
SaysNone NoPoint = ⊥

-- a point is shown that costs at most v
abbrev pub ShowsAtMost : Found → ℤ → Type 0
ShowsAtMost NoneExists v = ⊥
ShowsAtMost (Point q d) v = q ≤ℤ v
ShowsAtMost NoPoint v = ⊥

-- of a problem and of the offers made since the last amendment: r is shown, and the list handed over then holds z
pub record Honest (P : Problem) (WasOffered : Offer → Type 0) (r : Shown) (z : List ℤ) : Type 0 where
  pub point_meets_all : ShowsPoint P r r.found z
  pub floor_holds : (x : List ℤ) → Meets P x → r.floor ≤ℤ (pos 256 *ℤ cost P (places x))
  pub gap_holds : GapHolds P r.found
  pub none_is_true : SaysNone r.found → (x : List ℤ) → Meets P x → ⊥
  pub none_is_said : (y : List ℤ) → WasOffered (proof y) → LawfulProof P y → SaysNone r.found
  pub no_point_lost : (x : List ℤ) → WasOffered (point x) → LawfulPoint P x → ShowsAtMost r.found (cost P (places x))
  pub no_floor_lost : (q : Pair) → WasOffered (pair q) → LawfulPair P q → floor_of P q ≤ℤ r.floor

-- what is held is lawful
abbrev pub Held : Option (List ℤ) → (List ℤ → Type 0) → Type 0
Held None P = Unit {0}
Held (Some x) P = P x

-- the problem in force after the calls of a history
abbrev pub problem_after : State → List Call → Problem
problem_after s past = stated s.g s.a (in_force s.numbers past)

-- a plan that was opened over g, a and x stands at t, once the calls of the history were made on it
pub record StandsAfter (g a : Grid) (x : Numbers) (past : List Call) (t : State) : Type 0 where
  pub opens : open_fault g a x ≡ None
  pub stands : reached (opened g a x) past ≡ t

-- Law of one show: whatever opening and whatever calls led to the plan as it stands, what is shown is honest.
abbrev pub ShowLaw : State → Result Shown Refusal → List ℤ → Type 0
ShowLaw t r z =
    (g a : Grid) (x : Numbers) (past : List Call) → StandsAfter g a x past t
    → (v : Shown) → r ≡ Ok v → Honest (problem_after (opened g a x) past) (Offered (opened g a x) past) v z

-- Law of what is held: a held point and a held proof are lawful, so that the two are never held together.
pub record HoldsLawfully (t : State) : Type 0 where
  pub point_lawful : Held t.point (LawfulPoint (problem t))
  pub proof_lawful : Held t.proof (LawfulProof (problem t))
  pub not_both : (z y : List ℤ) → t.point ≡ Some z → t.proof ≢ Some y

abbrev pub AlwaysLawful : Type 0
AlwaysLawful = (g a : Grid) (x : Numbers) (past : List Call) (t : State) → StandsAfter g a x past t → HoldsLawfully t
