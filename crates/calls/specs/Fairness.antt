-- Fair states, and what holds of whatever calls are made on one. A plan just opened is one.
use Rattle.std.specs.Prelude.{◌≡◌, List, [], ℤ, None, Ok, Result}
use Rattle.duality.specs.Convex.{Symmetric, Convex}
use Rattle.table.specs.Grid.{Grid}
use Rattle.opening.specs.Opening.{Numbers, open_fault}
use Rattle.opening.specs.declared.refusal.Refusal.{Refusal}
use Rattle.calls.specs.declared.answers.Shown.{Shown}
use Rattle.calls.specs.States.{State, problem}
use Rattle.calls.specs.Lawful.{LawfulPoint, LawfulProof}
use Rattle.calls.specs.Opened.{opened}
use Rattle.calls.specs.Histories.{Call, reached, Offered}
use Rattle.calls.specs.Honesty.{Honest, Held, problem_after, HoldsLawfully}
use Rattle.calls.specs.Runs.{Reply, HonestRun}

-- what is held is lawful, and the cost is convex
pub record Fair (s : State) : Type 0 where
  pub point_lawful : Held s.point (LawfulPoint (problem s))
  pub proof_lawful : Held s.proof (LawfulProof (problem s))
  pub symmetric : Symmetric (problem s).ropes (problem s).G
  pub convex : Convex (problem s).ropes (problem s).G

-- Law of opening: a plan just opened is fair.
abbrev pub OpensFair : Type 0
OpensFair = (g a : Grid) (x : Numbers) → open_fault g a x ≡ None → Fair (opened g a x)

-- Law of one show: whatever history led from a fair start to the plan as it stands, what is shown is honest.
abbrev pub FairShowLaw : State → Result Shown Refusal → List ℤ → Type 0
FairShowLaw t r z = (s : State) (past : List Call) → Fair s → reached s past ≡ t → (x : Shown) → r ≡ Ok x → Honest (problem_after s past) (Offered s past) x z

-- Law of what is held: whatever calls are made on a fair plan, a held point and a held proof are lawful, so that the two are never held together.
abbrev pub FairlyLawful : Type 0
FairlyLawful = (s : State) (past : List Call) → Fair s → HoldsLawfully (reached s past)

-- Law of a run on a fair plan: every show that is not refused is honest about the problem in force and the offers made by then.
abbrev pub FairRunLaw : State → List Call → List Reply → Type 0
FairRunLaw s calls answers = Fair s → HonestRun s [] calls answers

-- Law of where a run leaves a plan: a fair one is left fair.
abbrev pub LeavesFair : State → State → Type 0
LeavesFair s t = Fair s → Fair t
