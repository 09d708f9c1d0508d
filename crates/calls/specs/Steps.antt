-- What each call answers, and the state that it leaves.
use Rattle.std.specs.Prelude.{ℕ, Bool, true, false, cond, not, ◌&&◌, List, length, ℤ, is_some, Some, None, Ok, Err, Option, Result, ◌==◌, int_lt, slice_set}
use Rattle.std.specs.Option.{unwrap_or}
use Rattle.duality.specs.Lists.{places}
use Rattle.duality.specs.Problem.{Problem, cost}
use Rattle.duality.specs.Floor.{gap}
pub use Rattle.opening.specs.Firsts.{unless}
use Rattle.opening.specs.declared.refusal.Refusal.{Refusal}
use Rattle.terms.specs.Numbers.{Numbers}
use Rattle.evaluate.specs.Findings.{feasible}
use Rattle.evaluate.specs.Floors.{refuting}
use Rattle.calls.specs.declared.answers.Amendment.{Amendment}
use Rattle.calls.specs.declared.answers.Amendment.TheVariants.{Row, Rope, Cost}
use Rattle.calls.specs.declared.answers.Dropped.{Dropped}
use Rattle.calls.specs.declared.answers.Found.{Found}
use Rattle.calls.specs.declared.answers.Found.TheVariants.{NoneExists, Point, NoPoint}
use Rattle.calls.specs.declared.answers.Shown.{Shown}
use Rattle.calls.specs.declared.answers.Verdict.{Verdict}
use Rattle.calls.specs.declared.answers.Verdict.TheVariants.{Taken, Kept}
use Rattle.calls.specs.States.{State, Pair, problem, floor_of, with_point, with_proof, with_pair, with_numbers}
use Rattle.calls.specs.Refusing.{length_refusal, point_refusal, pair_refusal, proof_refusal, amend_refusal}

abbrev pub verdict : Bool → Verdict
verdict true = Taken
verdict false = Kept

-- the state where an offer was taken, or the one before
abbrev pub if_taken : Result Verdict Refusal → State → State → State
if_taken (Ok Taken) taken s = taken
if_taken (Ok Kept) taken s = s
if_taken (Err e) taken s = s

-- point: taken if none is held or its cost is lower

abbrev pub undercuts : Problem → List ℤ → Option (List ℤ) → Bool
undercuts P z None = true
undercuts P z (Some x) = int_lt (cost P (places z)) (cost P (places x))

abbrev pub point_answer : State → List ℤ → Result Verdict Refusal
point_answer s z = unless (point_refusal (problem s) z) (verdict (undercuts (problem s) z s.point))

abbrev pub pointed : State → List ℤ → State
pointed s z = if_taken (point_answer s z) (with_point s (Some z)) s

-- floor: taken if its floor is higher

abbrev pub pair_answer : State → Pair → Result Verdict Refusal
pair_answer s q = unless (pair_refusal (problem s) q) (verdict (int_lt (floor_of (problem s) s.pair) (floor_of (problem s) q)))

abbrev pub paired : State → Pair → State
paired s q = if_taken (pair_answer s q) (with_pair s q) s

-- proof: taken if none is held

abbrev pub proof_answer : State → List ℤ → Result Verdict Refusal
proof_answer s y = unless (proof_refusal (problem s) y) (verdict (not (is_some s.proof)))

abbrev pub proven : State → List ℤ → State
proven s y = if_taken (proof_answer s y) (with_proof s (Some y)) s

-- amend: the numbers are set, and what no longer holds is dropped

abbrev pub amendment : Numbers → Amendment → Numbers
amendment x (Row i lo hi) =
    record { ropes = x.ropes; rows = x.rows; c = x.c; l = x.l; u = x.u; lo = slice_set x.lo i lo; hi = slice_set x.hi i hi }
amendment x (Rope j l u) =
    record { ropes = x.ropes; rows = x.rows; c = x.c; l = slice_set x.l j l; u = slice_set x.u j u; lo = x.lo; hi = x.hi }
amendment x (Cost j c) =
    record { ropes = x.ropes; rows = x.rows; c = slice_set x.c j c; l = x.l; u = x.u; lo = x.lo; hi = x.hi }

-- what is held, if it passes the test
abbrev pub standing : (List ℤ → Bool) → Option (List ℤ) → Option (List ℤ)
standing test None = None
standing test (Some x) = cond (test x) (Some x) None

-- only what holds under the numbers in force
abbrev pub cleared : State → State
cleared s =
    record {
      g = s.g;
      a = s.a;
      numbers = s.numbers;
      point = standing (λ z. feasible (problem s) (places z)) s.point;
      proof = standing (λ y. refuting (problem s) (places y)) s.proof;
      pair = s.pair;
    }

abbrev pub renumbered : State → Amendment → State
renumbered s m = with_numbers s (amendment s.numbers m)

abbrev pub was_dropped : Option (List ℤ) → Option (List ℤ) → Bool
was_dropped before after = is_some before && not (is_some after)

abbrev pub dropped_from : State → State → Dropped
dropped_from s t = record { point = was_dropped s.point t.point; proof = was_dropped s.proof t.proof }

abbrev pub amend_answer : State → Amendment → Result Dropped Refusal
amend_answer s m = unless (amend_refusal s.numbers m) (dropped_from s (cleared (renumbered s m)))

abbrev pub if_allowed : {X : Type 0} → Option Refusal → X → X → X
if_allowed None done x = done
if_allowed (Some e) done x = x

abbrev pub amended : State → Amendment → State
amended s m = if_allowed (amend_refusal s.numbers m) (cleared (renumbered s m)) s

-- show: the floor, and what is found; a point that is shown is written into the list

abbrev pub found_by : Problem → Pair → Option (List ℤ) → Option (List ℤ) → Found
found_by P q (Some y) point = NoneExists
found_by P q None (Some z) = Point (cost P (places z)) (gap P (places q.point) (places q.multipliers) (places z))
found_by P q None None = NoPoint

abbrev pub shown : State → Shown
shown s = record { floor = floor_of (problem s) s.pair; found = found_by (problem s) s.pair s.proof s.point }

abbrev pub show_answer : State → ℕ → Result Shown Refusal
show_answer s len = unless (length_refusal s.numbers.ropes len) (shown s)

abbrev pub point_shown : Option (List ℤ) → Option (List ℤ) → List ℤ → List ℤ
point_shown (Some y) point out = out
point_shown None point out = unwrap_or point out

abbrev pub shown_in : State → List ℤ → List ℤ
shown_in s out = cond (length out == s.numbers.ropes) (point_shown s.proof s.point out) out
