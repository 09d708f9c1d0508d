-- Any sequence of calls, the first call first, with the answers to all of them.
use Rattle.std.specs.Prelude.{◌≡◌, ℕ, zero, suc, List, [], ◌∷◌, ◌++◌, length, ℤ, Some, None, Ok, Option, Result}
use Rattle.table.specs.Grid.{Grid}
use Rattle.opening.specs.Opening.{Numbers}
use Rattle.opening.specs.declared.refusal.Refusal.{Refusal}
use Rattle.calls.specs.declared.answers.Dropped.{Dropped}
use Rattle.calls.specs.declared.answers.Report.{Report}
use Rattle.calls.specs.declared.answers.Shown.{Shown}
use Rattle.calls.specs.declared.answers.Verdict.{Verdict}
use Rattle.calls.specs.States.{State}
use Rattle.calls.specs.Steps.{unless, point_answer, pair_answer, proof_answer, amend_answer, show_answer, shown_in}
use Rattle.calls.specs.Offers.{Offer, point, pair, proof}
use Rattle.calls.specs.Solving.{solve_refusal, report}
use Rattle.calls.specs.Histories.{Call, offer, amend, solve, show, after, Offered}
use Rattle.calls.specs.Opened.{opened}
use Rattle.calls.specs.Honesty.{Honest, StandsAfter, problem_after}

-- an answer, and of a show the list handed over, as it is then
pub data Reply : Type 0 where
  judged : Result Verdict Refusal → Reply
  changed : Result Dropped Refusal → Reply
  solved : Result Report Refusal → Reply
  showed : Result Shown Refusal → List ℤ → Reply

abbrev pub verdict_on : State → Offer → Result Verdict Refusal
verdict_on s (point z) = point_answer s z
verdict_on s (pair q) = pair_answer s q
verdict_on s (proof y) = proof_answer s y

abbrev pub reply : State → Call → Reply
reply s (offer o) = judged (verdict_on s o)
reply s (amend m) = changed (amend_answer s m)
reply s (solve steps moves) = solved (unless (solve_refusal steps moves) (report s steps moves))
reply s (show out) = showed (show_answer s (length out)) (shown_in s out)

abbrev pub replies : State → List Call → List Reply
replies s [] = []
replies s (m ∷ ms) = reply s m ∷ replies (after s m) ms

-- the state after all calls
abbrev pub after_all : State → List Call → State
after_all s [] = s
after_all s (m ∷ ms) = after_all (after s m) ms

-- the first k calls as a history, the latest first, on top of an older one
abbrev pub first_calls : List Call → ℕ → List Call → List Call
first_calls ms zero past = past
first_calls [] (suc k) past = past
first_calls (m ∷ ms) (suc k) past = first_calls ms k (m ∷ past)

abbrev pub nth : {X : Type 0} → List X → ℕ → Option X
nth [] k = None
nth (x ∷ xs) zero = Some x
nth (x ∷ xs) (suc k) = nth xs k

-- Law of a whole run, made after the calls of a history: every show that is not refused is honest about the problem in force and the offers made by then,
-- those of the history among them.
abbrev pub HonestRun : State → List Call → List Call → List Reply → Type 0
HonestRun s past calls answers =
    (k : ℕ) (r : Shown) (z : List ℤ) → nth answers k ≡ Some (showed (Ok r) z)
    → Honest (problem_after s (first_calls calls k past)) (Offered s (first_calls calls k past)) r z

-- Law of a run on a plan at t: whatever opening and whatever calls led there, the run is honest about all of it.
abbrev pub RunLaw : State → List Call → List Reply → Type 0
RunLaw t calls answers =
    (g a : Grid) (x : Numbers) (past : List Call) → StandsAfter g a x past t → HonestRun (opened g a x) past calls answers

-- Law of where a run leaves a plan: its calls are the latest of the history then.
abbrev pub LeavesAfter : State → List Call → State → Type 0
LeavesAfter t calls u =
    (g a : Grid) (x : Numbers) (past : List Call) → StandsAfter g a x past t → StandsAfter g a x (first_calls calls (length calls) past) u

-- Law: two runs, one after the other, answer and leave what the one run of both lists does.
pub record AsOne (s : State) (ms ns : List Call) : Type 0 where
  pub answers : replies s (ms ++ ns) ≡ replies s ms ++ replies (after_all s ms) ns
  pub leaves : after_all s (ms ++ ns) ≡ after_all (after_all s ms) ns

abbrev pub RunsCompose : Type 0
RunsCompose = (s : State) (ms ns : List Call) → AsOne s ms ns
